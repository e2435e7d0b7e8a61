use Rattle.cluster_run.proofs.Named.{in_every_run}
use Rattle.cluster_run.specs.RunLaws.{Dependency}
use Rattle.cluster_run.proofs.laws.runs_depend.Goals as goal

pub returns : goal.returns
returns c = in_every_run Dependency c.settings_are_sane.ensures c.dependency.ensures c.invariant_in_every_run.ensures.invariant
