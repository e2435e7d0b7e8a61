-- What bytes hold a journal: records, each behind a gate that is open, up to the first gate that is closed.
use Rattle.std.specs.Prelude.{◌≡◌, ◌≢◌, ℕ, ◌≤◌, ◌⊎◌, ◌++◌, List, [], ◌∷◌, length, Option}
use Rattle.std.specs.List.{All, flat_map}
use Rattle.std.specs.Int.{to_be_bytes, w32}
use Rattle.journal_disk.specs.Disk.{DiskState, Change, Kept, MightLeave, OnTold}
use Rattle.journal_records.specs.declared.limits.TheConstants.{LEAST_ENTRY, GREATEST_ENTRY}
use Rattle.journal_records.specs.declared.gates.TheConstants.{OPEN}

-- so many bytes may a record count
abbrev pub IsCount : ℕ → Type 0
IsCount count = (LEAST_ENTRY ≤ count) × (count ≤ GREATEST_ENTRY)

-- bytes that a record may count
abbrev pub IsEntry : List ℕ → Type 0
IsEntry entry = IsCount (length entry)

-- a record: its entry, with the length before it
unfoldable pub record_of : List ℕ → List ℕ
record_of entry = to_be_bytes w32 (length entry) ++ entry

-- a record behind a gate that is open
abbrev pub opened : List ℕ → List ℕ
opened entry = OPEN ∷ record_of entry

-- the place of the gate behind the records
abbrev pub last_gate : List (List ℕ) → ℕ
last_gate entries = length (flat_map opened entries)

-- each record behind its open gate, then a gate that is closed, then anything
pub record Holds (entries : List (List ℕ)) (bytes : List ℕ) : Type 0 where
  pub each : All IsEntry entries
  pub gate : ℕ
  pub closed : gate ≢ OPEN
  pub behind : List ℕ
  pub are : bytes ≡ flat_map opened entries ++ gate ∷ behind

-- the records, or those and one more
abbrev pub HoldsEither : (entries : List (List ℕ)) (entry bytes : List ℕ) → Type 0
HoldsEither entries entry bytes = Holds entries bytes ⊎ Holds (entries ++ entry ∷ []) bytes

-- it keeps what its reads give
abbrev pub IsKept : DiskState → Type 0
IsKept s = (earlier : List Change) × (s.past ≡ Kept s.contents ∷ earlier)

-- it holds the records, and keeps them
pub record HoldsForGood (entries : List (List ℕ)) (s : DiskState) : Type 0 where
  pub holds : Holds entries s.contents
  pub kept : IsKept s

-- a disk holds the records for good, where it tells, and their last gate stands at that place
pub record EndsAt (entries : List (List ℕ)) (end : ℕ) (told : Option DiskState) : Type 0 where
  pub gate : end ≡ last_gate entries
  pub disk : OnTold (HoldsForGood entries) told

-- it went on from there
abbrev pub Follows : (then_past now_past : List Change) → Type 0
Follows then_past now_past = (since : List Change) × (now_past ≡ since ++ then_past)

-- reads give the records, or those and one more, and so does whatever a stop since then might have left
pub record LosesNone (entries : List (List ℕ)) (entry : List ℕ) (then_past : List Change) (s : DiskState) : Type 0 where
  pub follows : Follows then_past s.past
  pub now : HoldsEither entries entry s.contents
  pub stopped : (left : List ℕ) → MightLeave then_past s.past left → HoldsEither entries entry left
