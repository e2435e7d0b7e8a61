-- In which cluster transactions are pursued.
use Rattle.std.specs.Prelude.{◌≡◌, ℕ, List, Option, Some, slice_get}
use Rattle.basil_types.specs.Setting.{Setting}
use Rattle.client_core.specs.declared.held.Formed.{Formed}
use Rattle.client_core.specs.declared.held.Slot.{Slot}

-- what is formed is pursued in this cluster
abbrev pub IsOf : Setting → Option Formed → Type 0
IsOf c formed = (f : Formed) → formed ≡ Some f → f.pursuit.cluster ≡ c

abbrev pub AreOf : Setting → List Slot → Type 0
AreOf c slots = (place : ℕ) (slot : Slot) → slice_get slots place ≡ Some slot → IsOf c slot.formed
