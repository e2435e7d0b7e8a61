use Rattle.delivery_laws.proofs.Taking.{books_follow_deliveries}
use Rattle.delivery_laws.proofs.laws.books_follow_deliveries.Goals as goal

pub returns : goal.returns
returns c = books_follow_deliveries
