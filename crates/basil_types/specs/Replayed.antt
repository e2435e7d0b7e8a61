-- The map that writes leave when transactions are replayed in the order of their versions.
use Rattle.std.specs.Prelude.{ℕ, List, [], ◌∷◌, Some, None, if◌then◌else◌, filter, map}
use Rattle.std.specs.Ordering.{nat_cmp}
use Rattle.std.specs.Cmp.Lexicographic.{slice_cmp}
use Rattle.std.specs.BTreeMap.{insert_entry}
use Rattle.basil_types.specs.declared.version.Version.{Version}
use Rattle.basil_types.specs.declared.replayed.Latest.{Latest}
use Rattle.basil_types.specs.declared.transaction.parts.WritePart.{WritePart}
use Rattle.basil_types.specs.Version.{below, version_cmp}
use Rattle.basil_types.specs.Transaction.{TransactionValue, version_of}

-- a finite map, as its entries in the order of their keys
abbrev pub Replayed : Type 0
Replayed = List (List ℕ × Latest)

-- a write gives its key a version and a value; a deletion gives it a version and no value
abbrev pub latest_of : Version → WritePart → Latest
latest_of v w = record { version = v; value = if w.deletes then None else Some w.value }

abbrev pub put_writes : Version → Replayed → List WritePart → Replayed
put_writes v map [] = map
put_writes v map (w ∷ ws) = put_writes v (insert_entry (slice_cmp nat_cmp) map w.key (latest_of v w)) ws

-- these transactions' writes, one transaction after the other
abbrev pub replay : Replayed → List TransactionValue → Replayed
replay map [] = map
replay map (t ∷ ts) = replay (put_writes (version_of t) map t.writes) ts

-- transactions by their versions
abbrev pub Versions : Type 0
Versions = List (Version × TransactionValue)

abbrev pub put_versions : Versions → List TransactionValue → Versions
put_versions known [] = known
put_versions known (t ∷ ts) = put_versions (insert_entry version_cmp known (version_of t) t) ts

-- these transactions, ascending by version, each version once
abbrev pub by_version : List TransactionValue → List TransactionValue
by_version ts = map (λ e. e.1) (put_versions [] ts)

-- the map that all of these leave
abbrev pub map_of : List TransactionValue → Replayed
map_of ts = replay [] (by_version ts)

-- the map that those of them leave whose versions are below this one
abbrev pub before : List TransactionValue → Version → Replayed
before ts v = map_of (filter (λ t. below (version_of t) v) ts)
