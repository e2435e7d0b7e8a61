use Rattle.cluster_run.proofs.Named.{in_every_run}
use Rattle.cluster_run.specs.RunLaws.{Exclusion}
use Rattle.cluster_run.proofs.laws.runs_exclude.Goals as goal

pub returns : goal.returns
returns c = in_every_run Exclusion c.settings_are_sane.ensures c.exclusion.ensures c.invariant_in_every_run.ensures.invariant
