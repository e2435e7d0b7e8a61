use Rattle.cluster_nodes.proofs.Telling.{plan_counts}
use Rattle.cluster_nodes.proofs.sizes.plans_tell.Goals as goal

pub returns : goal.returns
returns c = λ signing kept book parts plan gives can. plan_counts signing kept book parts gives plan can
