-- What is held under an id.
use Rattle.std.specs.Prelude.{◌≡◌, ℕ, List, map, Bool, false, Option, Some, None}
use Rattle.std.specs.Str.{bytes_eq}
use Rattle.basil_types.specs.Transaction.{id}
use Rattle.client_core.specs.declared.held.Formed.{Formed}
use Rattle.client_core.specs.declared.held.Slot.{Slot}

abbrev pub is_named_by : List ℕ → Option Formed → Bool
is_named_by named None = false
is_named_by named (Some f) = bytes_eq named (id f.pursuit.transaction)

-- whether it is formed, and its transaction has this id
abbrev pub is_named : List ℕ → Slot → Bool
is_named named slot = is_named_by named slot.formed

-- the id of what is formed
abbrev pub id_formed : Option Formed → Option (List ℕ)
id_formed None = None
id_formed (Some f) = Some (id f.pursuit.transaction)

-- whether it is this id
abbrev pub is_id : List ℕ → Option (List ℕ) → Bool
is_id named None = false
is_id named (Some own) = bytes_eq named own

abbrev pub id_in : Slot → Option (List ℕ)
id_in slot = id_formed slot.formed

-- these are the ids of the slots, in their order
abbrev pub AreIds : List (Option (List ℕ)) → List Slot → Type 0
AreIds ids slots = ids ≡ map id_in slots
