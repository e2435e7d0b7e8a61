-- The map that listed transactions leave, as pairs.
use Rattle.std.specs.Prelude.{List, [], ◌∷◌, true, false, Option, Some, None, ℕ}
use Rattle.basil_types.specs.Replayed.{Replayed, map_of, before}
use Rattle.basil_types.specs.Transaction.{TransactionValue}
use Rattle.basil_types.specs.declared.version.Version.{Version}
use Rattle.serial_audit.specs.declared.maps.Pair.{Pair}

-- a deleted pair has the empty value
abbrev pub pair : (key : List ℕ) → (writer : Version) → (value : Option (List ℕ)) → Pair
pair key writer None = record { key = key; writer = writer; value = []; deleted = true }
pair key writer (Some value) = record { key = key; writer = writer; value = value; deleted = false }

-- one for each key, in the order of the map
abbrev pub pairs_of : Replayed → List Pair
pairs_of [] = []
pairs_of (e ∷ es) = pair e.0 e.1.version e.1.value ∷ pairs_of es

-- the map that all of these leave, or those of them whose versions are below this one
abbrev pub map_below : Option Version → List TransactionValue → Replayed
map_below None ts = map_of ts
map_below (Some v) ts = before ts v
