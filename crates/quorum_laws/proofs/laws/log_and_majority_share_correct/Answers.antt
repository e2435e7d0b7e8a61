use Rattle.quorum_laws.proofs.LawProofs.{log_and_majority_share_correct}
use Rattle.quorum_laws.proofs.laws.log_and_majority_share_correct.Goals as goal

pub returns : goal.returns
returns c = log_and_majority_share_correct
