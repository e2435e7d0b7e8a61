use Rattle.quorum_laws.proofs.LawProofs.{tallies_share}
use Rattle.quorum_laws.proofs.laws.tallies_share.Goals as goal

pub returns : goal.returns
returns c = tallies_share
