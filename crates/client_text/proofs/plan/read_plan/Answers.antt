use Rattle.std.proofs.Common.{arith}
use Rattle.std.proofs.lemmas.Grind.{common_steps}
use Rattle.client_text.proofs.plan.read_plan.Goals as goal

pub returns-then-arguments-le-MOST_OPS : goal.returns-then-arguments-le-MOST_OPS
returns-then-arguments-le-MOST_OPS c = grind (arith, common_steps) steps 2000000
