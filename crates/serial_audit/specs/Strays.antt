-- The reads of listed transactions that aren't those of the map before their reader.
use Rattle.std.specs.Prelude.{ℕ, List, Bool, not, flat_map, filter, map, Option, if◌then◌else◌}
use Rattle.std.specs.Cmp.Lexicographic.{slice_cmp}
use Rattle.std.specs.List.{enumerate_from, reduce}
use Rattle.std.specs.Ordering.{nat_cmp, ordering_then, is_lt}
use Rattle.std.specs.declared.cmp.Ordering.{Ordering}
use Rattle.basil_types.specs.Latest.{at}
use Rattle.basil_types.specs.Replayed.{before}
use Rattle.basil_types.specs.Transaction.{TransactionValue, version_of}
use Rattle.basil_types.specs.Version.{same_version, version_cmp}
use Rattle.basil_types.specs.declared.transaction.parts.ReadPart.{ReadPart}
use Rattle.basil_types.specs.declared.version.Version.{Version}
use Rattle.serial_laws.specs.Reads.{version_found}

-- the version that the map before a reader of this version has at a key, or genesis where it has none
abbrev pub expected : List TransactionValue → Version → (key : List ℕ) → Version
expected ts reader key = version_found (at (before ts reader) key)

abbrev pub is_right : List TransactionValue → (reader : Version) → ReadPart → Bool
is_right ts reader r = same_version r.version (expected ts reader r.key)

-- a read that isn't right: its reader's version and place, its key, and the versions that it has and should have
pub record Stray : Type 0 where
  pub reader : Version
  pub place : ℕ
  pub key : List ℕ
  pub found : Version
  pub expected : Version

abbrev pub stray_of : List TransactionValue → (reader : Version) → (place : ℕ) → ReadPart → Stray
stray_of ts reader place r = record {
  reader = reader;
  place = place;
  key = r.key;
  found = r.version;
  expected = expected ts reader r.key;
}

-- among these reads of a transaction
abbrev pub strays_among : List TransactionValue → (reader : Version) → (place : ℕ) → List ReadPart → List Stray
strays_among ts reader place reads = map (stray_of ts reader place) (filter (λ r. not (is_right ts reader r)) reads)

abbrev pub strays_at : List TransactionValue → ℕ × TransactionValue → List Stray
strays_at ts p = strays_among ts (version_of p.1) p.0 p.1.reads

-- all of a list, whose places count from 0
abbrev pub strays : List TransactionValue → List Stray
strays ts = flat_map (strays_at ts) (enumerate_from 0 ts)

-- by the reader's version, then by key, then by place
abbrev pub stray_cmp : Stray → Stray → Ordering
stray_cmp a b =
    ordering_then (version_cmp a.reader b.reader)
    (ordering_then (slice_cmp nat_cmp a.key b.key) (nat_cmp a.place b.place))

abbrev pub comes_before : Stray → Stray → Bool
comes_before a b = is_lt (stray_cmp a b)

abbrev pub earlier : Stray → Stray → Stray
earlier a b = if comes_before b a then b else a

abbrev pub first_stray : List TransactionValue → Option Stray
first_stray ts = reduce earlier (strays ts)
