use Rattle.quorum_laws.proofs.Counts.{sets_share}
use Rattle.quorum_laws.proofs.laws.sets_share.Goals as goal

pub returns : goal.returns
returns c = sets_share
