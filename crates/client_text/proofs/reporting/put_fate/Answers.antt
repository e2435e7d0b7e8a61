use Rattle.std.proofs.Common.{arith}
use Rattle.std.proofs.lemmas.Grind.{elements}
use Rattle.client_text.proofs.reporting.put_fate.Goals as goal

pub returns-in-Some-Abort-default : goal.returns-in-Some-Abort-default
returns-in-Some-Abort-default g c = grind (arith, elements) steps 2000000
