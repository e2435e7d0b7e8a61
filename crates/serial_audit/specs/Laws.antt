-- What a verdict says of a list.
use Rattle.std.specs.Prelude.{◌≡◌, ◌≢◌, ◌↔◌, false, List, Some, slice_get}
use Rattle.std.specs.List.{Contains}
use Rattle.basil_types.specs.Transaction.{TransactionValue, version_of}
use Rattle.basil_types.specs.declared.transaction.parts.ReadPart.{ReadPart}
use Rattle.serial_audit.specs.Strays.{Stray, expected, comes_before, first_stray}
use Rattle.serial_audit.specs.Verdicts.{verdict_of}
use Rattle.serial_audit.specs.declared.audit.Verdict.TheVariants as verdict

-- each listed read is of the version that the map before its reader has
abbrev pub AllAreRight : List TransactionValue → Type 0
AllAreRight ts =
    (t : TransactionValue) → Contains ts t → (r : ReadPart) → Contains t.reads r →
    r.version ≡ expected ts (version_of t) r.key

-- this is a read of the list that isn't
pub record IsStray (ts : List TransactionValue) (s : Stray) : Type 0 where
  pub by : TransactionValue
  pub at : slice_get ts s.place ≡ Some by
  pub reader : version_of by ≡ s.reader
  pub read : ReadPart
  pub reads : Contains by.reads read
  pub key : read.key ≡ s.key
  pub found : read.version ≡ s.found
  pub expected : expected ts s.reader s.key ≡ s.expected
  pub stray : s.found ≢ s.expected

-- and none comes before it
pub record IsFirstStray (ts : List TransactionValue) (s : Stray) : Type 0 where
  pub is : IsStray ts s
  pub first : (u : Stray) → IsStray ts u → comes_before u s ≡ false

abbrev pub SerialIsRight : Type 0
SerialIsRight = (ts : List TransactionValue) → (verdict_of ts ≡ verdict.Serial) ↔ AllAreRight ts

abbrev pub StrayIsFirst : Type 0
StrayIsFirst = (ts : List TransactionValue) (s : Stray) → first_stray ts ≡ Some s → IsFirstStray ts s
