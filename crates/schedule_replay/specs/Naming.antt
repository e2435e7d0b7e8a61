-- The names that a map holds.
use Rattle.std.specs.Prelude.{ℕ, List, [], map, slice_get, Vec}
use Rattle.std.specs.Option.{option_map_or}
use Rattle.schedule_replay.specs.declared.names.Begun.{Begun}
use Rattle.schedule_replay.specs.Replays.{NamedValue, NamesValue}

abbrev pub named_in : {A : Type 0} → Vec ℕ A × Begun → NamedValue
named_in e = record { name = e.0.items; client = e.1.client }

-- the keys that a transaction was to read
abbrev pub keys_in : {A : Type 0} → Vec ℕ A × Begun → List (List ℕ)
keys_in e = e.1.keys.keys

-- the begun transactions of a map
abbrev pub names_in : {A : Type 0} → List (Vec ℕ A × Begun) → NamesValue
names_in es = record { begun = map named_in es; keys = map keys_in es }

-- the name at a place, or the empty one
abbrev pub name_at : NamesValue → (place : ℕ) → List ℕ
name_at names place = option_map_or (λ (n : NamedValue). n.name) (slice_get names.begun place) []
