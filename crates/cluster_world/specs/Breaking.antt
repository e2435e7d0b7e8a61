-- What the watch refuses ends the run.
use Rattle.std.specs.Prelude.{◌≡◌}
use Rattle.cluster_run.specs.declared.fault.WorldFault.TheVariants as worlds
use Rattle.premise_watch.specs.declared.broken.WatchFault.{WatchFault}
use Rattle.premise_watch.specs.declared.broken.WatchFault.TheVariants as watches
use Rattle.cluster_world.specs.declared.fault.StepFault.{StepFault}
use Rattle.cluster_world.specs.declared.fault.StepFault.TheVariants as steps

abbrev pub step_fault : WatchFault → StepFault
step_fault (watches.Broken b) = steps.World (worlds.Broken b)
step_fault watches.NoMemory = steps.NoMemory

abbrev pub IsOfWatch : WatchFault → StepFault → Type 0
IsOfWatch fault e = e ≡ step_fault fault
