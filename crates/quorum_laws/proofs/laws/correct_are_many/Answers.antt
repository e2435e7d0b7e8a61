use Rattle.quorum_laws.proofs.LawProofs.{correct_are_many}
use Rattle.quorum_laws.proofs.laws.correct_are_many.Goals as goal

pub returns : goal.returns
returns c = correct_are_many
