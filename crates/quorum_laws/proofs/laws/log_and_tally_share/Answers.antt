use Rattle.quorum_laws.proofs.LawProofs.{log_and_tally_share}
use Rattle.quorum_laws.proofs.laws.log_and_tally_share.Goals as goal

pub returns : goal.returns
returns c = log_and_tally_share
