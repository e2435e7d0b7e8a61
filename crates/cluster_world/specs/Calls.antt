-- A refused call.
use Rattle.client_steps.specs.declared.fault.CallFault.{CallFault}
use Rattle.client_steps.specs.declared.fault.CallFault.TheVariants as calls
use Rattle.cluster_run.specs.declared.fault.WorldFault.TheVariants as worlds
use Rattle.cluster_world.specs.declared.fault.StepFault.{StepFault}
use Rattle.cluster_world.specs.declared.fault.StepFault.TheVariants as faults

-- it is told as it is, unless memory was wanting
abbrev pub step_fault_of : CallFault → StepFault
step_fault_of calls.NoMemory = faults.NoMemory
step_fault_of fault = faults.World (worlds.Call fault)
