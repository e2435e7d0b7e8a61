use Rattle.frame_fitting.proofs.LengthLaws.{transaction_length}
use Rattle.frame_fitting.proofs.lengths.longest_transaction.Goals as goal

pub returns : goal.returns
returns c = λ t is. transaction_length t is
