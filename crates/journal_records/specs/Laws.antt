-- Laws of journals.
use Rattle.std.specs.Prelude.{◌≡◌, ℕ, ◌⊎◌, ◌++◌, List, [], ◌∷◌, length, take, drop}
use Rattle.journal_disk.specs.Disk.{Change, DiskState, MightLeave, keeps}
use Rattle.journal_records.specs.declared.found.Found.{Found}
use Rattle.journal_records.specs.declared.found.Found.TheVariants.{Closed, Record}
use Rattle.journal_records.specs.Journal.{Holds, HoldsEither, HoldsForGood, Follows, last_gate}
use Rattle.journal_records.specs.Found.{FitsBuffer, Tells}

-- bytes hold one list of records
abbrev pub RecordsAreUnique : Type 0
RecordsAreUnique =
    (entries others : List (List ℕ)) (bytes : List ℕ) → Holds entries bytes → Holds others bytes → entries ≡ others

-- a disk that comes to keep what its reads give holds for good which of both its reads give
abbrev pub WhatIsKeptStays : Type 0
WhatIsKeptStays =
    (entries : List (List ℕ)) (entry : List ℕ) (s : DiskState) → HoldsEither entries entry s.contents
    → HoldsForGood entries (keeps s) ⊎ HoldsForGood (entries ++ entry ∷ []) (keeps s)

-- what a stop might have left since some moment, it might have left before a later one, or since then
abbrev pub StopsDivide : Type 0
StopsDivide =
    (then_past middle_past now_past : List Change) (left : List ℕ) → Follows middle_past now_past
    → MightLeave then_past now_past left → MightLeave then_past middle_past left ⊎ MightLeave middle_past now_past left

-- what was found is the record given
pub record IsFound (entry : List ℕ) (found : Found) (buffer : List ℕ) : Type 0 where
  pub is : found ≡ Record (length entry)
  pub bytes : take (length entry) buffer ≡ entry

-- each record is found at the gate before it, and no other; behind the last, that its gate is closed
pub record JournalIsFound : Type 0 where
  pub records : (before : List (List ℕ)) (entry : List ℕ) (after : List (List ℕ)) (bytes : List ℕ)
      (found : Found) (buffer : List ℕ) → Holds (before ++ entry ∷ after) bytes → FitsBuffer found buffer
      → Tells found buffer (drop (last_gate before) bytes) → IsFound entry found buffer
  pub last : (entries : List (List ℕ)) (bytes : List ℕ) (found : Found) (buffer : List ℕ) → Holds entries bytes
      → Tells found buffer (drop (last_gate entries) bytes) → found ≡ Closed
