use Rattle.quorum_laws.proofs.LawProofs.{tallies_share_correct}
use Rattle.quorum_laws.proofs.laws.tallies_share_correct.Goals as goal

pub returns : goal.returns
returns c = tallies_share_correct
