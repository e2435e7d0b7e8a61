-- What a stop leaves of a run, and of its journals.
use Rattle.std.specs.Prelude.{◌≡◌, ℕ, List, Option, Some, None, is_some, Bool, true, false, Result, Ok, Err, ⊤}
use Rattle.journal_disk.specs.declared.disk.Stop.{Stop}
use Rattle.keyring.specs.declared.verifier.Verifier as verifiers
use Rattle.keyring.specs.declared.signer.Signer as signers
use Rattle.run_journals.specs.declared.journals.Journals.{Journals}
use Rattle.run_journals.specs.declared.took.Took.{Took}
use Rattle.run_journals.specs.declared.took.Took.TheVariants.{Taken, Refused, Full}
use Rattle.run_journals.specs.Journals.{JournalValue, after_stop, journal_at, put_at}
use Rattle.cluster_run.specs.States.{Setup, State}
use Rattle.cluster_world.specs.declared.engine.Engine.{Engine}
use Rattle.cluster_world.specs.declared.fault.StepFault.{StepFault}
use Rattle.cluster_world.specs.declared.fault.StepFault.TheVariants as fault
use Rattle.cluster_world.specs.Shows.{Shows}
use Rattle.delivery_laws.specs.Deliveries.{Taking, book_in}
use Rattle.journaled_runs.specs.Journaling.{lose_all}
use Rattle.journaled_runs.specs.Shown.{Holds}

-- the journals after a stop within the record of what a replica takes: the journal has the stop, and the record if it
-- is kept
abbrev pub after_stopping : Option Taking → Stop → List JournalValue → List JournalValue
after_stopping None stop journals = journals
after_stopping (Some t) stop journals =
    put_at (λ journal. after_stop journal t.handed stop Taken) (journal_at journals t.shard t.index) journals

-- whether a journal took
abbrev pub has_taken : Took → Bool
has_taken Taken = true
has_taken Refused = false
has_taken (Full records bytes) = false

-- these messages are lost, whatever journals there are, and the books are as before
pub record Loses (s : Setup) (messages : List ℕ) (st after : State) : Type 0 where
  pub comes : (journals : List JournalValue) → lose_all s messages (record { state = st; journals = journals })
      ≡ Ok (record { state = after; journals = journals })
  pub books : (shard index : ℕ) → book_in after shard index ≡ book_in st shard index

module _ {V S : Type 0} {v : verifiers.Ghosts V} {g : signers.Ghosts S} (s : Setup) where
  -- a disk stopped where something was taken, and its journal tells it
  pub record HasStopped (taking : Option Taking) (stop : Stop) (values : List JournalValue)
      (journals : Journals V S v g) (took : Bool) : Type 0 where
    pub took_is : took ≡ is_some taking
    pub holds : Holds s journals (after_stopping taking stop values)

  -- these messages are lost, and the world shows it, unless memory is wanting
  abbrev pub LosesAll : (messages : List ℕ) (st : State) → Engine V S v g → Result (Unit {0}) StepFault → Type 0
  LosesAll messages st core (Ok done) = (after : State) × Loses s messages st after × Shows s core after
  LosesAll messages st core (Err (fault.World w)) = ⊥
  LosesAll messages st core (Err fault.NoMemory) = ⊤
