use Rattle.delivery_laws.proofs.Starting.{books_begin_empty}
use Rattle.delivery_laws.proofs.laws.books_begin_empty.Goals as goal

pub returns : goal.returns
returns c = books_begin_empty
