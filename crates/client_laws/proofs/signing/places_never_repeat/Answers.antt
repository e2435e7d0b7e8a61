use Rattle.client_laws.proofs.Counting.{all_spend}
use Rattle.client_laws.proofs.signing.places_never_repeat.Goals as goal

pub returns : goal.returns
returns c = all_spend
