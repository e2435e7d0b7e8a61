use Rattle.sight_laws.proofs.Happening.{posted_are_seen}
use Rattle.sight_laws.proofs.posted_are_seen.Goals as goal

pub returns : goal.returns
returns c = posted_are_seen
