-- When a run is safe.
use Rattle.std.specs.Prelude.{◌≡◌, ℕ, List, Bool, false, true, Option, Some, None, option_map}
use Rattle.std.specs.Prelude.{option_and_then, Ok, Contains, filter, map, slice_get}
use Rattle.basil_types.specs.declared.party.Party.TheVariants.{Client}
use Rattle.basil_types.specs.declared.party.Decision.{Decision}
use Rattle.basil_types.specs.declared.party.Decision.TheVariants.{Commit, Abort}
use Rattle.basil_types.specs.declared.replayed.Latest.{Latest}
use Rattle.basil_types.specs.declared.transaction.parts.ReadPart.{ReadPart}
use Rattle.basil_types.specs.declared.version.Version.{Version}
use Rattle.basil_types.specs.Latest.{at}
use Rattle.basil_types.specs.Replayed.{before}
use Rattle.serial_laws.specs.Reads.{version_found}
use Rattle.basil_types.specs.Transaction.{TransactionValue, id, version_of}
use Rattle.certificates.specs.Refusals.{decision_of}
use Rattle.basil_types.specs.Decision.{same_decision}
use Rattle.client_core.specs.Clients.{ClientValue, SlotValue}
use Rattle.client_core.specs.Slots.{ReadStateValue, Absent, Found, Deleted, value, slot_of_time}
use Rattle.frame_views.specs.Values.{PairValue}
use Rattle.cluster_run.specs.Events.{EventValue, run}
use Rattle.cluster_run.specs.States.{Setup, IsSetup, is_faulty, client_at, State, start}

abbrev pub proves : Decision → PairValue → Bool
proves d p = same_decision (decision_of p.certificate.body) d

-- the transactions with a seen commit certificate
abbrev pub committed : State → List TransactionValue
committed st = map (λ (p : PairValue). p.transaction) (filter (proves Commit) st.certified)

-- ---- agreement

-- no transaction has both a commit and an abort certificate
abbrev pub Agreed : State → Type 0
Agreed st =
    (p q : PairValue) → Contains st.certified p → Contains st.certified q → id p.transaction ≡ id q.transaction →
    proves Commit p ≡ true → proves Abort q ≡ true → ⊥

-- ---- reads

-- the latest committed write of a key before a transaction
abbrev pub latest_before : State → TransactionValue → List ℕ → Option Latest
latest_before st t key = at (before (committed st) (version_of t)) key

abbrev pub written : Version → Option (List ℕ) → ReadStateValue
written v None = Deleted v
written v (Some bytes) = Found v bytes

abbrev pub state_in : Option Latest → ReadStateValue
state_in None = Absent
state_in (Some l) = written l.version l.value

-- what the transaction's client was given for a key, in the slot that it began at the transaction's time
abbrev pub given_by : Setup → TransactionValue → List ℕ → ClientValue → Option ReadStateValue
given_by s t key c =
    option_map (λ (slot : SlotValue). value s.cluster slot key)
    (option_and_then (slice_get c.slots) (slot_of_time c t.time))

abbrev pub given : Setup → State → TransactionValue → List ℕ → Option ReadStateValue
given s st t key = option_and_then (given_by s t key) (client_at st t.client)

pub record IsRightRead (s : Setup) (st : State) (t : TransactionValue) (r : ReadPart) : Type 0 where
  pub version : r.version ≡ version_found (latest_before st t r.key)
  pub told : given s st t r.key ≡ Some (state_in (latest_before st t r.key))

-- each committed transaction of a correct client read, per key, what the latest committed writer before it wrote
abbrev pub ReadsAreRight : Setup → State → Type 0
ReadsAreRight s st =
    (t : TransactionValue) → Contains (committed st) t → is_faulty s (Client t.client) ≡ false →
    (r : ReadPart) → Contains t.reads r → IsRightRead s st t r

pub record IsSafe (s : Setup) (st : State) : Type 0 where
  pub agreed : Agreed st
  pub reads : ReadsAreRight s st

-- every run without a breach agrees (that it is safe stands in `Safety`)
abbrev pub RunsAgree : Type 0
RunsAgree =
    (s : Setup) → IsSetup s → (events : List EventValue) (st : State) → run s events (start s) ≡ Ok st → Agreed st
