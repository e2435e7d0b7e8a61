use Rattle.txn_table.proofs.StoredLaws.{stored_stays}
use Rattle.txn_table.proofs.laws.stored_ones_stay.Goals as goal

pub returns : goal.returns
returns c = stored_stays
