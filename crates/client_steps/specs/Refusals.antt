-- What the refusal of a call tells.
use Rattle.std.specs.Prelude.{◌≡◌, ◌≢◌, Result, Ok, Err, Option, Some, None}
use Rattle.client_steps.specs.declared.fault.CallFault.{CallFault}
use Rattle.client_steps.specs.declared.fault.CallFault.TheVariants.{NoMemory}

-- Ok exactly where there is no fault, and otherwise that one, or memory is wanting
abbrev pub RefusesCall : Result (Unit {0}) CallFault → Option CallFault → Type 0
RefusesCall (Ok x) fault = fault ≡ None
RefusesCall (Err e) fault = e ≢ NoMemory → fault ≡ Some e
