-- How the bytes of an id are hashed.
use Rattle.std.specs.Prelude.{ℕ, List, fold, bit_xor}
use Rattle.std.specs.Int.{w64, rotate_left}
use Rattle.id_maps.specs.declared.hasher.IdHasher.{IdHasher}

abbrev pub initial : IdHasher
initial = record { state = 0 }

-- the state after one byte more
abbrev pub mixed : (state byte : ℕ) → ℕ
mixed state byte = bit_xor (rotate_left w64 state 8) byte

abbrev pub write : IdHasher → List ℕ → IdHasher
write h bytes = record { state = fold mixed h.state bytes }
