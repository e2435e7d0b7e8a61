use Rattle.sight_laws.proofs.Happening.{seen_stays}
use Rattle.sight_laws.proofs.seen_stays.Goals as goal

pub returns : goal.returns
returns c = seen_stays
