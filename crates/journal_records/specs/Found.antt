-- What stands at a gate.
use Rattle.std.specs.Prelude.{◌≡◌, ◌≢◌, ℕ, ◌≤◌, ◌<◌, ◌++◌, List, ◌∷◌, length, take}
use Rattle.std.specs.Prelude.{Option, Some, None, Bool, true, false}
use Rattle.std.specs.Int.{to_be_bytes, w32}
use Rattle.journal_records.specs.declared.gates.TheConstants.{OPEN}
use Rattle.journal_records.specs.declared.found.Found.{Found}
use Rattle.journal_records.specs.declared.found.Found.TheVariants.{Closed, Record, Broken}
use Rattle.journal_records.specs.Journal.{IsCount, IsEntry, opened, record_of}

-- the bytes begin with a gate that is closed
pub record BeginsClosed (bytes : List ℕ) : Type 0 where
  pub gate : ℕ
  pub closed : gate ≢ OPEN
  pub behind : List ℕ
  pub are : bytes ≡ gate ∷ behind

-- the bytes begin with a gate that is open and this record
pub record BeginsWith (entry bytes : List ℕ) : Type 0 where
  pub fits : IsEntry entry
  pub behind : List ℕ
  pub are : bytes ≡ opened entry ++ behind

-- neither stands there
pub record BeginsBroken (bytes : List ℕ) : Type 0 where
  pub not_closed : BeginsClosed bytes → ⊥
  pub no_record : (entry : List ℕ) → BeginsWith entry bytes → ⊥

-- what was found is what the bytes begin with; a record's entry stands at the front of the buffer
abbrev pub Tells : Found → List ℕ → List ℕ → Type 0
Tells Closed buffer bytes = BeginsClosed bytes
Tells (Record count) buffer bytes = BeginsWith (take count buffer) bytes
Tells Broken buffer bytes = BeginsBroken bytes

-- so many bytes were found as a record may count, and the buffer has
abbrev pub FitsBuffer : Found → List ℕ → Type 0
FitsBuffer Closed buffer = Unit {0}
FitsBuffer (Record count) buffer = IsCount count × (count ≤ length buffer)
FitsBuffer Broken buffer = Unit {0}

-- the bytes begin with a gate that is open
abbrev pub IsOpen : List ℕ → Type 0
IsOpen bytes = (behind : List ℕ) × (bytes ≡ OPEN ∷ behind)

-- the bytes begin with the number of a record, if there is one; else no record is there
abbrev pub TellsCount : Option ℕ → List ℕ → Type 0
TellsCount (Some count) bytes = (behind : List ℕ) × (bytes ≡ to_be_bytes w32 count ++ behind)
TellsCount None bytes = (entry behind : List ℕ) → IsEntry entry → bytes ≡ record_of entry ++ behind → ⊥

-- the buffer begins as the bytes do, where those are as many
abbrev pub TellsBytes : Bool → ℕ → List ℕ → List ℕ → Type 0
TellsBytes true count buffer bytes = (count ≤ length bytes) × (take count buffer ≡ take count bytes)
TellsBytes false count buffer bytes = length bytes < count
