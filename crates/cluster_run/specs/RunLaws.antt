-- What holds of the abstract state of every run without a breach.
use Rattle.std.specs.Prelude.{◌≡◌, true, ◌⊎◌, List, Ok, Contains}
use Rattle.agreement_laws.specs.Words.{Id}
use Rattle.agreement_laws.specs.Settings as settings
use Rattle.agreement_laws.specs.Certificates.{FastAbort, LoggedAbort}
use Rattle.agreement_laws.specs.Invariants.{IsBlocked}
use Rattle.agreement_laws.specs.Runs as runs
use Rattle.agreement_laws.specs.Runs.{signed_of}
pub use Rattle.agreement_laws.specs.Invariants.{Invariant}
pub use Rattle.agreement_laws.specs.Laws.{Counting, LockIn, Exclusion, Dependency}
use Rattle.basil_types.specs.Transaction.{TransactionValue}
use Rattle.cluster_run.specs.Abstract.{abstract_setting, abstract_state, seen_lookup}
use Rattle.cluster_run.specs.Events.{EventValue, run}
use Rattle.cluster_run.specs.Settings.{Finds}
use Rattle.cluster_run.specs.States.{Setup, IsSetup, State, start}

-- a law of agreement, of what every run without a breach comes to
abbrev pub InEveryRun : (settings.Setting → runs.State → Type 0) → Type 0
InEveryRun Law =
    (s : Setup) → IsSetup s → (events : List EventValue) (st : State) → run s events (start s) ≡ Ok st →
    Law (abstract_setting s st) (abstract_state st)

-- each transaction of which an abort certificate was seen has a fast or a logged one, or is blocked
abbrev pub HaveCauses : settings.Setting → runs.State → Type 0
HaveCauses c st =
    (x : Id) → st.aborted x ≡ true →
    (FastAbort c (signed_of st) x ⊎ LoggedAbort c (signed_of st) x) ⊎ IsBlocked c (signed_of st) x

-- each transaction that was seen is the one of its id
abbrev pub SeenAreFound : Type 0
SeenAreFound =
    (s : Setup) → IsSetup s → (events : List EventValue) (st : State) → run s events (start s) ≡ Ok st →
    (t : TransactionValue) → Contains st.watch.texts t → Finds (seen_lookup st) t
