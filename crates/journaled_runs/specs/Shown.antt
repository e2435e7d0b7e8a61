-- Which states of a run a world and its journals show.
use Rattle.std.specs.Prelude.{◌≡◌, ℕ, List, Some, false, Result, Ok, Err, ⊤}
use Rattle.basil_types.specs.declared.party.Party.TheVariants.{Replica}
use Rattle.keyring.specs.declared.verifier.Verifier as verifiers
use Rattle.keyring.specs.declared.signer.Signer as signers
use Rattle.node_steps.specs.Pens.{PenValue}
use Rattle.replica_core.specs.Replicas.{empty_book}
use Rattle.replica_laws.specs.Steps.{book_after}
use Rattle.run_journals.specs.declared.journals.Journals.{Journals}
use Rattle.run_journals.specs.Journals.{JournalValue, journal_at}
use Rattle.run_journals.specs.Kept.{AreJournals}
use Rattle.cluster_run.specs.declared.fault.WorldFault.{WorldFault}
use Rattle.cluster_run.specs.declared.fault.WorldFault.TheVariants.{Broken, PoolFull, Call, Exhausted}
use Rattle.cluster_run.specs.Parts.{replica_self}
use Rattle.cluster_run.specs.States.{KitValue, Setup, State, is_faulty}
use Rattle.cluster_world.specs.declared.engine.Engine.{Engine}
use Rattle.cluster_world.specs.declared.fault.StepFault.{StepFault}
use Rattle.cluster_world.specs.declared.fault.StepFault.TheVariants as fault
use Rattle.cluster_world.specs.Shows.{Shows}
use Rattle.delivery_laws.specs.Deliveries.{book_in}
use Rattle.journaled_runs.specs.Journaling.{JournaledState}

-- where the pen of a replica begins
abbrev pub pen_of : Setup → (shard index : ℕ) → PenValue
pen_of s shard index = s.kit.pen (Replica shard index)

-- a journal is a correct replica's, and has what leads to its book
pub record IsOwn (s : Setup) (st : State) (j : JournalValue) : Type 0 where
  pub correct : is_faulty s (Replica j.shard j.index) ≡ false
  pub book : book_in st j.shard j.index
      ≡ Some (book_after (replica_self s j.shard j.index) (empty_book (pen_of s j.shard j.index)) j.taken)

-- so is each that is found at a place
abbrev pub AreOwn : Setup → State → List JournalValue → Type 0
AreOwn s st journals =
    (shard index : ℕ) (j : JournalValue) → journal_at journals shard index ≡ Some j → IsOwn s st j

module _ {V S : Type 0} {v : verifiers.Ghosts V} {g : signers.Ghosts S} (s : Setup) where
  -- code holds these journals
  abbrev pub Holds : Journals V S v g → List JournalValue → Type 0
  Holds journals values = AreJournals (replica_self s) (pen_of s) journals values

  -- journals as code holds them, of a run with this kit at this state: a replica's is its own
  pub record KeepsAll (kit : KitValue) (journals : Journals V S v g) (x : JournaledState) : Type 0 where
    pub kit_is : s.kit ≡ kit
    pub holds : Holds journals x.journals
    pub own : AreOwn s x.state x.journals

module _ {V S : Type 0} {v : verifiers.Ghosts V} {g : signers.Ghosts S} (s : Setup) (kit : KitValue)
    (x : JournaledState) where
  -- the world and the journals show what the answer leaves; a refusal is the answer's, and leaves all as before; a
  -- breach is the answer's, and ends the run; so does want of memory
  abbrev pub ComesTo : Result JournaledState WorldFault → Engine V S v g → Journals V S v g →
      Result (Unit {0}) StepFault → Type 0
  ComesTo answer core journals (Ok done) =
      (after : JournaledState) × (answer ≡ Ok after) × Shows s core after.state × KeepsAll s kit journals after
  ComesTo answer core journals (Err (fault.World (Broken b))) = answer ≡ Err (Broken b)
  ComesTo answer core journals (Err (fault.World (PoolFull messages bytes))) =
      (answer ≡ Err (PoolFull messages bytes)) × Shows s core x.state × KeepsAll s kit journals x
  ComesTo answer core journals (Err (fault.World (Call f))) =
      (answer ≡ Err (Call f)) × Shows s core x.state × KeepsAll s kit journals x
  ComesTo answer core journals (Err (fault.World (Exhausted party))) =
      (answer ≡ Err (Exhausted party)) × Shows s core x.state × KeepsAll s kit journals x
  ComesTo answer core journals (Err fault.NoMemory) = ⊤
