-- What a read or a write of an open transaction does.
use Rattle.std.specs.Prelude.{Bool, Option, Some, None, if◌then◌else◌}
use Rattle.client_steps.specs.declared.fault.CallFault.{CallFault}
use Rattle.client_steps.specs.declared.fault.CallFault.TheVariants.{NotOpen, TooMany, SizeOut}
use Rattle.client_steps.specs.declared.steps.ReadStep.{ReadStep}
use Rattle.client_steps.specs.declared.steps.ReadStep.TheVariants.{Refused, Known, Asks}

abbrev pub step_of : Bool → Bool → Bool → Bool → ReadStep
step_of formed known full fits =
    if formed then Refused NotOpen
    else if known then Known
    else if full then Refused TooMany
    else if fits then Asks else Refused SizeOut

abbrev pub fault_of : Bool → Bool → Bool → Option CallFault
fault_of formed full fits =
    if formed then Some NotOpen else if full then Some TooMany else if fits then None else Some SizeOut
