-- The journals of replicas, as code keeps them.
use Rattle.std.specs.Prelude.{◌≡◌, ℕ, ◌==◌, ◌&&◌, List, Bool, false, Option, Some, None, ⊤}
use Rattle.certificates.specs.Accepted.{Accepted}
use Rattle.journal_disk.specs.declared.disk.Disk as disks
use Rattle.journal_disk.specs.declared.disk.Stop.{Stop}
use Rattle.journal_disk.specs.Disk.{OnTold}
use Rattle.journal_disk.specs.Foreseen.{Foreseen, StopState}
use Rattle.journal_disk.specs.Memory.{MemDiskState}
use Rattle.journal_records.specs.Journal.{Holds}
use Rattle.keyring.specs.declared.verifier.Verifier as verifiers
use Rattle.keyring.specs.declared.signer.Signer as signers
use Rattle.keyring.specs.Signing.{Signing}
use Rattle.node_journal.specs.declared.journaled.Journaled.{Journaled}
use Rattle.node_journal.specs.Journals.{Keeps, entries_of}
use Rattle.node_journal.specs.Replicas.{Reflects}
use Rattle.node_steps.specs.Pens.{PenValue}
use Rattle.replica_core.specs.Replicas.{ReplicaSelf}
use Rattle.replica_core.specs.Shown.{own}
use Rattle.run_journals.specs.declared.journal.RunJournal.{RunJournal}
use Rattle.run_journals.specs.declared.journals.Journals.{Journals}
use Rattle.run_journals.specs.Journals.{JournalValue}
use Rattle.run_journals.specs.Pairs.{Pairs}

-- these stops happened, in order, and the disk goes on; this one awaits, or none
abbrev pub going : Option Foreseen → List Stop → StopState
going awaits happened = record { awaits = awaits; happened = happened; is_stopped = false }

-- the stop comes in the write that it names, from now on
abbrev pub in_its_write : Stop → Foreseen
in_its_write stop = record { stop = stop; left = stop.write }

-- this replica, its pen at this place before the first frame, took what the value says; its disk goes on, and had just
-- those stops, and this one awaits, or none
pub record IsGoing {V S D : Type 0} {v : verifiers.Ghosts V} {g : signers.Ghosts S} {d : disks.Ghosts D}
    (me : ReplicaSelf) (begun : PenValue) (j : Journaled V S D v g d) (awaits : Option Foreseen)
    (value : JournalValue) : Type 0 where
  pub own : own j.replica ≡ me
  pub reflects : Reflects j begun value.taken
  pub stops : d.stops j.disk ≡ going awaits value.stops

-- the disk of this replica holds what the value says, stopped or not, and had just those stops
pub record IsLeft {V S D : Type 0} {v : verifiers.Ghosts V} {g : signers.Ghosts S} {d : disks.Ghosts D}
    (me : ReplicaSelf) (begun : PenValue) (j : Journaled V S D v g d) (value : JournalValue) : Type 0 where
  pub own : own j.replica ≡ me
  pub keeps : OnTold (λ s. Keeps me begun value.taken s.contents) (d.told j.disk)
  pub happened : (d.stops j.disk).happened ≡ value.stops

-- it is the journal of this replica
pub record IsJournal {V S : Type 0} {v : verifiers.Ghosts V} {g : signers.Ghosts S} (me : ReplicaSelf)
    (begun : PenValue) (journal : RunJournal V S v g) (value : JournalValue) : Type 0 where
  pub shard : journal.shard ≡ value.shard
  pub index : journal.index ≡ value.index
  pub going : IsGoing me begun journal.journaled None value

-- whether it is that of this replica
abbrev pub at_place : {V S : Type 0} {v : verifiers.Ghosts V} {g : signers.Ghosts S} → (shard index : ℕ) →
    RunJournal V S v g → Bool
at_place shard index journal = (journal.shard == shard) && (journal.index == index)

-- what a keyring accepts, how a signer signs and where it stands are those of a replica before its first frame
pub record AreOf (me : ReplicaSelf) (begun : PenValue) (accepts : Accepted) (signing : Signing) (pen : PenValue) :
    Type 0 where
  pub accepted : accepts ≡ me.accepts
  pub signed : signing ≡ me.signing
  pub begins : pen ≡ begun

-- the disk holds the records of what was taken, and had these stops
pub record HoldsJournal (disk : MemDiskState) (value : JournalValue) : Type 0 where
  pub holds : Holds (entries_of value.taken) disk.disk.contents
  pub stops : disk.stops.happened ≡ value.stops

-- ---- of several replicas

-- the journal of its replica, of those
abbrev pub IsOne : {V S : Type 0} {v : verifiers.Ghosts V} {g : signers.Ghosts S} → (who : ℕ → ℕ → ReplicaSelf)
    (begun : ℕ → ℕ → PenValue) → RunJournal V S v g → JournalValue → Type 0
IsOne who begun journal x = IsJournal (who x.shard x.index) (begun x.shard x.index) journal x

-- they are the journals of these replicas, in this order
abbrev pub AreJournals : {V S : Type 0} {v : verifiers.Ghosts V} {g : signers.Ghosts S} →
    (who : ℕ → ℕ → ReplicaSelf) (begun : ℕ → ℕ → PenValue) → Journals V S v g → List JournalValue → Type 0
AreJournals who begun journals values = Pairs (IsOne who begun) journals.journals.items values

-- a disk holds the journal, and there is none where there is no journal
abbrev pub ShowsDisk : Option MemDiskState → Option JournalValue → Type 0
ShowsDisk None None = ⊤
ShowsDisk None (Some x) = ⊥
ShowsDisk (Some disk) None = ⊥
ShowsDisk (Some disk) (Some x) = HoldsJournal disk x
