use Rattle.txn_table.proofs.IdLaws.{ids_tell_places}
use Rattle.txn_table.proofs.laws.ids_tell_places.Goals as goal

pub returns : goal.returns
returns c = ids_tell_places
