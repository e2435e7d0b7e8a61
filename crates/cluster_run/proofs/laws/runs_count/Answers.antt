use Rattle.cluster_run.proofs.Named.{in_every_run}
use Rattle.cluster_run.specs.RunLaws.{Counting}
use Rattle.cluster_run.proofs.laws.runs_count.Goals as goal

pub returns : goal.returns
returns c = in_every_run Counting c.settings_are_sane.ensures c.counting.ensures c.invariant_in_every_run.ensures.invariant
