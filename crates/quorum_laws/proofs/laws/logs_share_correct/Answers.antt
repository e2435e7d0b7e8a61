use Rattle.quorum_laws.proofs.LawProofs.{logs_share_correct}
use Rattle.quorum_laws.proofs.laws.logs_share_correct.Goals as goal

pub returns : goal.returns
returns c = logs_share_correct
