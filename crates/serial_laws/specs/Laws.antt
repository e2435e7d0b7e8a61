-- The statements.
use Rattle.std.specs.Prelude.{◌≡◌, ℕ, true, false, List, []}
use Rattle.std.specs.List.{Contains}
use Rattle.basil_types.specs.declared.transaction.parts.ReadPart.{ReadPart}
use Rattle.basil_types.specs.Latest.{at, IsLatest}
use Rattle.basil_types.specs.Replayed.{by_version, map_of, before}
use Rattle.basil_types.specs.Transaction.{TransactionValue, id, version_of}
use Rattle.txn_meta.specs.Conflicts.{crosses}
use Rattle.agreement_laws.specs.Words.{Id}
use Rattle.agreement_laws.specs.Replicas.{Act}
use Rattle.agreement_laws.specs.Settings.{Sane}
use Rattle.serial_laws.specs.Bases.{Basis, IsSane, IsOfCorrectClient, setting_of}
use Rattle.serial_laws.specs.Committed.{IsCommitted, IsShown, IsCommittedBelow, IsShownBelow, AreClosed, AreShown}
use Rattle.serial_laws.specs.Invariants.{Invariant}
use Rattle.serial_laws.specs.Reads.{version_found}
use Rattle.serial_laws.specs.Runs.{State, Step, happens, IsLawful, run, AreLawful, start, answers, MayAnswerSo}
use Rattle.serial_laws.specs.Serving.{IsServed, AreServed}

-- real transactions make a sane setting
abbrev pub SettingsAreSane : Type 0
SettingsAreSane = (b : Basis) → IsSane b → Sane (setting_of b)

-- ---- what the laws say of a state

-- no committed transaction wrote a key between the version that a committed one read and that one's own, whoever their
-- clients are
abbrev pub NoneBetween : Basis → State → Type 0
NoneBetween b st =
    (t u : TransactionValue) → IsCommitted b st t → IsCommitted b st u →
    (r : ReadPart) → Contains t.reads r → crosses u t r ≡ false

-- no two committed transactions have one version
abbrev pub OneOfEachVersion : Basis → State → Type 0
OneOfEachVersion b st =
    (t u : TransactionValue) → IsCommitted b st t → IsCommitted b st u → version_of t ≡ version_of u → t ≡ u

-- what a committed transaction read is what the latest committed writer below it left, which has had a commit
-- certificate shown; it is absent where no committed transaction below wrote the key
pub record ReadLatest (b : Basis) (st : State) (t : TransactionValue) (r : ReadPart) : Type 0 where
  pub latest : IsLatest (IsShownBelow b st t) (IsCommittedBelow b st t) r.key (st.given (id t) r.key)
  pub version : r.version ≡ version_found (st.given (id t) r.key)

-- so does each committed transaction of a correct client
abbrev pub ReadsAreLatest : Basis → State → Type 0
ReadsAreLatest b st =
    (t : TransactionValue) → IsCommitted b st t → IsOfCorrectClient b t →
    (r : ReadPart) → Contains t.reads r → ReadLatest b st t r

-- each read of a correct client's transaction is that of the map before the transaction
abbrev pub ReadBefore : Basis → State → List TransactionValue → Type 0
ReadBefore b st ts = (t : TransactionValue) → Contains ts t → IsServed b st (before ts (version_of t)) t

-- and running the transactions one after another by their versions serves each of them so
pub record Serial (b : Basis) (st : State) (ts : List TransactionValue) : Type 0 where
  pub reads : ReadBefore b st ts
  pub served : AreServed b st [] (by_version ts)

abbrev pub ClosedAreSerial : Basis → State → Type 0
ClosedAreSerial b st = (ts : List TransactionValue) → AreClosed b st ts → Serial b st ts

abbrev pub ShownAreClosed : Basis → State → Type 0
ShownAreClosed b st = (ts : List TransactionValue) → AreShown b st ts → AreClosed b st ts

abbrev pub ShownAreSerial : Basis → State → Type 0
ShownAreSerial b st = (ts : List TransactionValue) → AreShown b st ts → Serial b st ts

-- the map that they leave, which a report shows, has at each key what the latest of them left there
abbrev pub ShownMapsAreLatest : Basis → State → Type 0
ShownMapsAreLatest b st =
    (ts : List TransactionValue) → AreShown b st ts → (key : List ℕ) →
    IsLatest (IsShown b st) (IsShown b st) key (at (map_of ts) key)

-- there is a list of them
abbrev pub ShownAreListed : Basis → State → Type 0
ShownAreListed b st = (ts : List TransactionValue) × AreShown b st ts

-- no transaction has had both a commit and an abort certificate shown, and each read of a correct client's transaction
-- of the list is that of the map before it
pub record Safe (b : Basis) (st : State) (ts : List TransactionValue) : Type 0 where
  pub agreement : (x : Id) → st.committed x ≡ true → st.inner.aborted x ≡ false
  pub reads : ReadBefore b st ts

abbrev pub AreSafe : Basis → State → Type 0
AreSafe b st = (ts : List TransactionValue) → AreShown b st ts → Safe b st ts

-- ---- how they are said

abbrev pub FromInvariant : (Basis → State → Type 0) → Type 0
FromInvariant Law = (b : Basis) → IsSane b → (st : State) → Invariant b st → Law b st

abbrev pub InEveryRun : (Basis → State → Type 0) → Type 0
InEveryRun Law = (b : Basis) → IsSane b → (es : List Step) → AreLawful b es start → Law b (run es start)

-- ---- the invariant

abbrev pub HoldsAtStart : Type 0
HoldsAtStart = (b : Basis) → Invariant b start

abbrev pub HoldsAfterStep : Type 0
HoldsAfterStep =
    (b : Basis) → IsSane b → (st : State) (e : Step) → Invariant b st → IsLawful b st e → Invariant b (happens st e)

-- after what a correct replica does at one message
abbrev pub HoldsAfterAnswer : Type 0
HoldsAfterAnswer =
    (b : Basis) → IsSane b → (st : State) (s r : ℕ) (acts : List (Id × Act)) → Invariant b st → b.faulty s r ≡ false →
    MayAnswerSo b st s r acts → Invariant b (answers st s r acts)
