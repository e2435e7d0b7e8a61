-- Where an item goes in a list that ascends by key.
use Rattle.std.specs.Prelude.{ℕ, ◌<◌, ◌≤◌, List, insert, slice_set}
use Rattle.client_core.specs.declared.ordered.Place.{Place}
use Rattle.client_core.specs.declared.ordered.Place.TheVariants.{At, Before}

abbrev pub placed : {A : Type 0} → Place → A → List A → List A
placed (At i) a items = slice_set items i a
placed (Before i) a items = insert items i a

abbrev pub IsWithin : Place → ℕ → Type 0
IsWithin (At i) count = i < count
IsWithin (Before i) count = i ≤ count
