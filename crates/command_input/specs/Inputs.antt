-- An input that is read whole, and why one comes to nothing.
use Rattle.std.specs.Prelude.{◌≡◌, ◌<◌, ◌≤◌, ℕ, length, List, Bool, true, false, Result, Err, ⊤}
use Rattle.command_ends.specs.Outcome.{longest_input}
use Rattle.command_input.specs.declared.input.InputFail.{InputFail}
use Rattle.command_input.specs.declared.input.InputFail.TheVariants as input
use Rattle.command_input.specs.declared.input.Whole.{Whole}
use Rattle.command_input.specs.declared.input.Whole.TheVariants as whole

-- whether a link failed
abbrev pub is_link_fail : {A : Type 0} → Result A InputFail → Bool
is_link_fail (Err input.Link) = true
is_link_fail result = false

-- an input that was read whole has these bytes; one that is too long has more than are read whole
abbrev pub IsWhole : Whole → List ℕ → Type 0
IsWhole (whole.Bytes all) bytes = (all ≡ bytes) × (length bytes ≤ longest_input)
IsWhole whole.TooLong bytes = longest_input < length bytes

-- an input that was read whole isn't longer than that
abbrev pub IsShort : Whole → Type 0
IsShort (whole.Bytes all) = length all ≤ longest_input
IsShort whole.TooLong = ⊤
