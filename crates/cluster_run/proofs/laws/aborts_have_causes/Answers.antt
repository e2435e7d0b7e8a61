use Rattle.cluster_run.proofs.Named.{have_causes}
use Rattle.cluster_run.proofs.laws.aborts_have_causes.Goals as goal

pub returns : goal.returns
returns c = have_causes c.invariant_in_every_run.ensures.invariant
