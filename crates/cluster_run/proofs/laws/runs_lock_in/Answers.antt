use Rattle.cluster_run.proofs.Named.{in_every_run}
use Rattle.cluster_run.specs.RunLaws.{LockIn}
use Rattle.cluster_run.proofs.laws.runs_lock_in.Goals as goal

pub returns : goal.returns
returns c = in_every_run LockIn c.settings_are_sane.ensures c.lock_in.ensures c.invariant_in_every_run.ensures.invariant
