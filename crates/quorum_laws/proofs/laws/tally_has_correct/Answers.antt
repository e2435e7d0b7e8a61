use Rattle.quorum_laws.proofs.LawProofs.{tally_has_correct}
use Rattle.quorum_laws.proofs.laws.tally_has_correct.Goals as goal

pub returns : goal.returns
returns c = tally_has_correct
