-- Lists of items, one after the other, of any kind.
use Rattle.std.specs.Prelude.{ℕ, zero, suc, List, [], ◌∷◌, Result, Ok, Err, Bool, true, false, length, ◌==◌}
use Rattle.basil_types.specs.declared.reading.Fault.{Fault}
use Rattle.basil_types.specs.Steps.{◌>>=◌}

-- k items, each read by one, which is told what the item before asks of it
unfoldable pub items_at : {F V : Type 0} → (F → List ℕ → Result (V × List ℕ) Fault) → (V → F) → ℕ → F → List ℕ → Result
    (List V × List ℕ) Fault
items_at one next zero floor bytes = Ok ([], bytes)
items_at one next (suc k) floor bytes = do
  first ← one floor bytes
  others ← items_at one next k (next first.0) first.1
  Ok (first.0 ∷ others.0, others.1)

-- each item may stand behind the one before it
abbrev pub AreItems : {F V : Type 0} → (F → V → Type 0) → (V → F) → F → List V → Type 0
AreItems Fit next floor [] = Unit {0}
AreItems Fit next floor (v ∷ vs) = Fit floor v × AreItems Fit next (next v) vs

abbrev pub list_of : {A : Type 0} → Result (List A × List ℕ) Fault → List A
list_of (Ok x) = x.0
list_of (Err e) = []

-- something was read
abbrev pub is_read : {A : Type 0} → Result (A × List ℕ) Fault → Bool
is_read (Ok x) = true
is_read (Err e) = false

-- something was read, of all of the bytes
abbrev pub is_whole : {A : Type 0} → Result (A × List ℕ) Fault → Bool
is_whole (Ok x) = length x.1 == 0
is_whole (Err e) = false
