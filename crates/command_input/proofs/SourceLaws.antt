-- The bytes that a source had, told or not.
use Rattle.std.proofs.Common.{ℕ, List, [], Option, Some, None}
use Rattle.command_input.specs.Reading.{OfBytes}

-- what holds of any bytes
pub of_any : (left : Option (List ℕ)) (So : List ℕ → Type 0) → ((bytes : List ℕ) → So bytes) → OfBytes left So
of_any None So h = ([], h [])
of_any (Some bytes) So h = h bytes

-- what follows
pub of_map : (left : Option (List ℕ)) (So Then : List ℕ → Type 0) → ((bytes : List ℕ) → So bytes → Then bytes) → OfBytes left So →
    OfBytes left Then
of_map None So Then turn h = (h.0, turn h.0 h.1)
of_map (Some bytes) So Then turn h = turn bytes h

-- ---- bytes that were read so far

-- of one that tells, all; of another, those
abbrev pub AtBytes : (left : Option (List ℕ)) (read : List ℕ) → (List ℕ → Type 0) → Type 0
AtBytes None read So = So read
AtBytes (Some bytes) read So = So bytes
