-- What a replica with a journal is handed.
use Rattle.std.specs.Prelude.{◌≡◌, ℕ, List, Option, Some, None, option_and_then, Result, Ok, Err, ⊤}
use Rattle.keyring.specs.declared.verifier.Verifier as verifiers
use Rattle.keyring.specs.declared.signer.Signer as signers
use Rattle.node_journal.specs.Steps.{answer_after, handed}
use Rattle.basil_types.specs.declared.party.Party.{Party}
use Rattle.replica_core.specs.declared.refusal.Refusal.{Refusal}
use Rattle.replica_core.specs.Replicas.{Done}
use Rattle.replica_laws.specs.Steps.{Handed}
use Rattle.run_journals.specs.declared.journals.Journals.{Journals}
use Rattle.run_journals.specs.Journals.{JournalValue, journal_at}
use Rattle.cluster_run.specs.declared.fault.WorldFault.{WorldFault}
use Rattle.cluster_run.specs.declared.fault.WorldFault.TheVariants.{Broken, PoolFull, Call, Exhausted}
use Rattle.cluster_run.specs.Events.{EventValue}
use Rattle.cluster_run.specs.Parts.{replica_self, Mail}
use Rattle.cluster_run.specs.States.{KitValue, Setup}
use Rattle.cluster_world.specs.declared.fault.StepFault.{StepFault}
use Rattle.cluster_world.specs.declared.fault.StepFault.TheVariants as fault
use Rattle.delivery_laws.specs.Deliveries.{Taking, takes}
use Rattle.journaled_runs.specs.declared.letter.Letter.{Letter}
use Rattle.journaled_runs.specs.Journaling.{JournaledState}
use Rattle.journaled_runs.specs.Shown.{KeepsAll, pen_of}

-- a frame that is handed to a party, and who sent it
abbrev pub hand : (from to : Party) → (frame : List ℕ) → Mail
hand from to frame = record { from = from; to = to; frame = frame }

abbrev pub handed_by_letter : Letter → Handed
handed_by_letter l = handed l.moment l.from l.frame.now

-- what a replica takes, by what it answers
abbrev pub taken_if : (shard index : ℕ) → Handed → Result Done Refusal → Option Taking
taken_if shard index h (Ok done) = Some (record { shard = shard; index = index; handed = h })
taken_if shard index h (Err refusal) = None

-- at this event a replica with this journal is handed this letter, and takes it if it doesn't refuse it
pub record Hands (s : Setup) (x : JournaledState) (e : EventValue) (l : Letter) : Type 0 where
  pub journal : JournalValue
  pub found : journal_at x.journals l.shard l.index ≡ Some journal
  pub answers : takes s x.state e ≡ taken_if l.shard l.index (handed_by_letter l)
      (answer_after (replica_self s l.shard l.index) (pen_of s l.shard l.index) journal.taken (handed_by_letter l))

-- the journal of the replica that takes
abbrev pub journal_of : List JournalValue → Option Taking → Option JournalValue
journal_of journals taking = option_and_then (λ (t : Taking). journal_at journals t.shard t.index) taking

-- no replica with a journal takes anything at this event
abbrev pub WritesNothing : Setup → JournaledState → EventValue → Type 0
WritesNothing s x e = journal_of x.journals (takes s x.state e) ≡ None

-- at this event this letter is handed, or nothing is written down
abbrev pub Told : Setup → JournaledState → EventValue → Option Letter → Type 0
Told s x e None = WritesNothing s x e
Told s x e (Some l) = Hands s x e l

module _ {V S : Type 0} {v : verifiers.Ghosts V} {g : signers.Ghosts S} (s : Setup) (kit : KitValue)
    (x : JournaledState) where
  -- the journal has room, or is full for this reason; the journals are as before, unless memory is wanting
  abbrev pub FindsRoom : Option WorldFault → Journals V S v g → Result (Unit {0}) StepFault → Type 0
  FindsRoom why journals (Ok done) = (why ≡ None) × KeepsAll s kit journals x
  FindsRoom why journals (Err (fault.World (Broken b))) = ⊥
  FindsRoom why journals (Err (fault.World (PoolFull records bytes))) =
      (why ≡ Some (PoolFull records bytes)) × KeepsAll s kit journals x
  FindsRoom why journals (Err (fault.World (Call f))) = ⊥
  FindsRoom why journals (Err (fault.World (Exhausted party))) = ⊥
  FindsRoom why journals (Err fault.NoMemory) = ⊤
