use Rattle.client_laws.proofs.Counting.{signed_once}
use Rattle.client_laws.proofs.signing.signed_once_per_slot.Goals as goal

pub returns : goal.returns
returns c = signed_once
