-- Fields read one after the other.
use Rattle.std.specs.Prelude.{ℕ, List, Result, Ok, Err, Option, Some, None, Bool, true, false, length, ◌&&◌, not}
use Rattle.std.specs.Prelude.{if◌then◌else◌}
use Rattle.basil_types.specs.declared.reading.Fault.{Fault}
use Rattle.basil_types.specs.declared.reading.Fault.TheVariants.{Range}
use Rattle.basil_types.specs.Steps.{◌>>=◌}
use Rattle.basil_types.specs.Reading.{flag_at}

-- two fields, the second of which may depend on the first
infixr 20 ◌▹◌
abbrev pub ◌▹◌ : {A B : Type 0} → (List ℕ → Result (A × List ℕ) Fault) → (A → List ℕ → Result (B × List ℕ) Fault)
    → List ℕ → Result ((A × B) × List ℕ) Fault
(first ▹ second) bytes = do
  a ← first bytes
  b ← second a.0 a.1
  Ok ((a.0, b.0), b.1)

-- two fields
infixr 20 ◌‖◌
abbrev pub ◌‖◌ : {A B : Type 0} → (List ℕ → Result (A × List ℕ) Fault) → (List ℕ → Result (B × List ℕ) Fault) → List ℕ
    → Result ((A × B) × List ℕ) Fault
(first ‖ second) bytes = do
  a ← first bytes
  b ← second a.1
  Ok ((a.0, b.0), b.1)

-- what fields make
abbrev pub made : {A B : Type 0} → (A → B) → (List ℕ → Result (A × List ℕ) Fault) → List ℕ → Result (B × List ℕ) Fault
made of fields bytes = do
  a ← fields bytes
  Ok (of a.0, a.1)

-- a part that is there where this says so
abbrev pub part_at : {A : Type 0} → (List ℕ → Result (A × List ℕ) Fault) → Bool → List ℕ
    → Result (Option A × List ℕ) Fault
part_at one true bytes = made Some one bytes
part_at one false bytes = Ok (None, bytes)

-- a flag, 1 only where this is allowed
unfoldable pub allowed_flag_at : Bool → List ℕ → Result (Bool × List ℕ) Fault
allowed_flag_at allowed bytes = do
  flag ← flag_at bytes
  if flag.0 && not allowed then Err (Range (length bytes)) else Ok flag
