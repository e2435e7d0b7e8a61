use Rattle.delivery_laws.proofs.Taking.{replicas_stay}
use Rattle.delivery_laws.proofs.laws.replicas_stay.Goals as goal

pub returns : goal.returns
returns c = replicas_stay
