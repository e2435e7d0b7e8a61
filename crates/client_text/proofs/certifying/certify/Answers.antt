use Rattle.std.proofs.Common.{arith}
use Rattle.std.proofs.lemmas.Grind.{elements}
use Rattle.client_text.proofs.certifying.certify.Goals as goal

pub returns-in-Some-outcome : goal.returns-in-Some-outcome
returns-in-Some-outcome g c = grind (arith, elements)
