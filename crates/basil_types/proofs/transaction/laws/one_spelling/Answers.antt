use Rattle.basil_types.proofs.TransactionLaws.{canonical-is}
use Rattle.basil_types.proofs.transaction.laws.one_spelling.Goals as goal

pub returns : goal.returns
returns c = canonical-is
