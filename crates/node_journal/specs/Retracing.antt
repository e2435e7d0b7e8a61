-- A replica that takes again what it took before a stop.
use Rattle.std.specs.Prelude.{◌≡◌, ℕ, ◌++◌, List, [], ◌∷◌, length, Bool, true, false, Result, Ok, MatchResult}
use Rattle.std.specs.List.{All, flat_map}
use Rattle.basil_types.specs.Limits.{IsU64}
use Rattle.journal_disk.specs.declared.disk.Disk as disks
use Rattle.journal_records.specs.Journal.{Holds, IsEntry, last_gate, opened}
use Rattle.keyring.specs.declared.verifier.Verifier as verifiers
use Rattle.keyring.specs.declared.signer.Signer as signers
use Rattle.node_steps.specs.Pens.{PenValue}
use Rattle.replica_core.specs.declared.replica.Replica.{Replica}
use Rattle.replica_core.specs.Answers.{answer}
use Rattle.replica_core.specs.Replicas.{ReplicaSelf, BookValue, Done}
use Rattle.replica_core.specs.Shown.{ShowsBook, own}
use Rattle.replica_laws.specs.Steps.{Handed}
use Rattle.node_journal.specs.declared.fault.JournalFault.{JournalFault}
use Rattle.node_journal.specs.declared.journaled.Journaled.{Journaled}
use Rattle.node_journal.specs.Entries.{entry_of}
use Rattle.node_journal.specs.Journals.{entries_of}
use Rattle.node_journal.specs.Opening.{HasRisen}
use Rattle.node_journal.specs.Replicas.{HasTaken}

-- it took these frames, and stands at the gate behind their records
pub record StandsBehind {V S D : Type 0} {v : verifiers.Ghosts V} {g : signers.Ghosts S} {d : disks.Ghosts D}
    (j : Journaled V S D v g d) (begun : PenValue) (hs : List Handed) : Type 0 where
  pub ready : j.closed ≡ false
  pub count : j.records ≡ length hs
  pub gate : j.end ≡ last_gate (entries_of hs)
  pub replica : HasTaken j.replica begun hs

-- the disk gives what it gave, its stops are as before, and its count of faults rises with a fault of it; all else is
-- as before
pub record ReadsOn {V S D A : Type 0} {v : verifiers.Ghosts V} {g : signers.Ghosts S} {d : disks.Ghosts D}
    (old new : Journaled V S D v g d) (result : Result A JournalFault) : Type 0 where
  pub told : d.told new.disk ≡ d.told old.disk
  pub stops : d.stops new.disk ≡ d.stops old.disk
  pub faults : MatchResult result (λ _. d.faults new.disk ≡ d.faults old.disk)
      (λ fault. HasRisen fault (d.faults old.disk) (d.faults new.disk))
  pub own : own new.replica ≡ own old.replica
  pub closed : new.closed ≡ old.closed

-- ---- what the bytes hold

-- it took the frame of this entry
pub record Hears {V S : Type 0} {v : verifiers.Ghosts V} {g : signers.Ghosts S} (replica : Replica V S v g)
    (me : ReplicaSelf) (book : BookValue) (entry : List ℕ) : Type 0 where
  pub handed : Handed
  pub done : Done
  pub written : entry ≡ entry_of handed
  pub moment : IsU64 handed.now
  pub answered : answer me handed.now handed.from book handed.frame ≡ Ok done
  pub shows : ShowsBook replica done.book

-- it took the frame of this entry, and stands behind its record
pub record GoesOn {V S D : Type 0} {v : verifiers.Ghosts V} {g : signers.Ghosts S} {d : disks.Ghosts D}
    (j : Journaled V S D v g d) (begun : PenValue) (before : List Handed) (entry : List ℕ) : Type 0 where
  pub handed : Handed
  pub written : entry ≡ entry_of handed
  pub stands : StandsBehind j begun (before ++ handed ∷ [])

-- it took the frames of the records at the front of these bytes, and stands at the gate behind those
pub record StandsFront {V S D : Type 0} {v : verifiers.Ghosts V} {g : signers.Ghosts S} {d : disks.Ghosts D}
    (j : Journaled V S D v g d) (begun : PenValue) (bytes : List ℕ) : Type 0 where
  pub hs : List Handed
  pub behind : List ℕ
  pub each : All IsEntry (entries_of hs)
  pub are : bytes ≡ flat_map opened (entries_of hs) ++ behind
  pub stands : StandsBehind j begun hs

-- it took all that they hold
pub record StandsLast {V S D : Type 0} {v : verifiers.Ghosts V} {g : signers.Ghosts S} {d : disks.Ghosts D}
    (j : Journaled V S D v g d) (begun : PenValue) (bytes : List ℕ) : Type 0 where
  pub hs : List Handed
  pub holds : Holds (entries_of hs) bytes
  pub stands : StandsBehind j begun hs

-- one more was taken, or there was none
abbrev pub Fronts : {V S D : Type 0} {v : verifiers.Ghosts V} {g : signers.Ghosts S} {d : disks.Ghosts D} →
    Journaled V S D v g d → PenValue → (bytes : List ℕ) → Bool → Type 0
Fronts j begun bytes true = StandsFront j begun bytes
Fronts j begun bytes false = StandsLast j begun bytes
