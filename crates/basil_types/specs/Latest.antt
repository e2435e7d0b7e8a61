-- What a transaction leaves at a key, and what stands there when transactions are replayed.
use Rattle.std.specs.Prelude.{◌≡◌, ℕ, true, false, List, [], ◌∷◌, Option, Some, None, if◌then◌else◌}
use Rattle.std.specs.BTreeMap.{is_at}
use Rattle.std.specs.Cmp.Lexicographic.{slice_cmp}
use Rattle.std.specs.List.{Contains}
use Rattle.std.specs.Map.{lookup}
use Rattle.std.specs.Ordering.{nat_cmp}
use Rattle.std.specs.Str.{bytes_eq}
use Rattle.basil_types.specs.declared.replayed.Latest.{Latest}
use Rattle.basil_types.specs.declared.transaction.parts.WritePart.{WritePart}
use Rattle.basil_types.specs.declared.version.Version.{Version}
use Rattle.basil_types.specs.Replayed.{Replayed, latest_of, map_of, before}
use Rattle.basil_types.specs.Transaction.{TransactionValue, version_of, writes_key}
use Rattle.basil_types.specs.Version.{below}

-- what stands at a key after these writes of one version, where this stood there before
abbrev pub left_by : Version → List WritePart → (key : List ℕ) → Option Latest → Option Latest
left_by v [] key old = old
left_by v (w ∷ ws) key old = left_by v ws key (if bytes_eq w.key key then Some (latest_of v w) else old)

-- what a transaction leaves at a key: its version, and the value that it wrote, or none where it deletes the key;
-- nothing where it doesn't write the key
abbrev pub leaves : TransactionValue → (key : List ℕ) → Option Latest
leaves t key = left_by (version_of t) t.writes key None

-- what stands at a key of a replayed map
abbrev pub at : Replayed → (key : List ℕ) → Option Latest
at map key = lookup (is_at (slice_cmp nat_cmp key)) map

-- One of these transactions left this at the key, and none of those above it wrote the key; or it is none, and none of
-- those wrote the key.
abbrev pub IsLatest : (these those : TransactionValue → Type 0) → (key : List ℕ) → Option Latest → Type 0
IsLatest These Those key None = (u : TransactionValue) → Those u → writes_key u key ≡ false
IsLatest These Those key (Some l) =
    (t : TransactionValue) ×
    These t ×
    (leaves t key ≡ Some l) ×
    ((u : TransactionValue) → Those u → below (version_of t) (version_of u) ≡ true → writes_key u key ≡ false)

-- no two of the list have one version
abbrev pub IsOneEach : List TransactionValue → Type 0
IsOneEach ts = (t u : TransactionValue) → Contains ts t → Contains ts u → version_of t ≡ version_of u → t ≡ u

-- those of the list whose versions are below this one's
abbrev pub IsBelow : List TransactionValue → TransactionValue → TransactionValue → Type 0
IsBelow ts t u = Contains ts u × (below (version_of u) (version_of t) ≡ true)

-- ---- laws

-- a replayed map has at each key what the latest of the list left there, deletions included
abbrev pub MapsAreLatest : Type 0
MapsAreLatest =
    (ts : List TransactionValue) → IsOneEach ts → (key : List ℕ) →
    IsLatest (Contains ts) (Contains ts) key (at (map_of ts) key)

-- and the map before a transaction what the latest of those below it left
abbrev pub MapsBeforeAreLatest : Type 0
MapsBeforeAreLatest =
    (ts : List TransactionValue) → IsOneEach ts → (t : TransactionValue) (key : List ℕ) →
    IsLatest (IsBelow ts t) (IsBelow ts t) key (at (before ts (version_of t)) key)

-- such a map depends on which transactions are of the list, and not on their order
abbrev pub MapsForgetOrder : Type 0
MapsForgetOrder =
    (ts us : List TransactionValue) → IsOneEach ts →
    ((t : TransactionValue) → Contains ts t → Contains us t) →
    ((t : TransactionValue) → Contains us t → Contains ts t) →
    map_of ts ≡ map_of us
