-- A replica that writes down what it takes.
use Rattle.std.specs.Prelude.{◌≡◌, List, length, false}
use Rattle.journal_disk.specs.declared.disk.Disk as disks
use Rattle.journal_records.specs.Journal.{EndsAt}
use Rattle.keyring.specs.declared.verifier.Verifier as verifiers
use Rattle.keyring.specs.declared.signer.Signer as signers
use Rattle.node_steps.specs.Pens.{PenValue}
use Rattle.replica_core.specs.declared.replica.Replica.{Replica}
use Rattle.replica_core.specs.Replicas.{empty_book}
use Rattle.replica_core.specs.Shown.{ShowsBook, own}
use Rattle.replica_laws.specs.Steps.{Handed, book_after}
use Rattle.node_journal.specs.declared.journaled.Journaled.{Journaled}
use Rattle.node_journal.specs.Journals.{AcceptsAll, entries_of}

-- it accepts each of these frames, its pen at this place before the first, and shows the book after them
pub record HasTaken {V S : Type 0} {v : verifiers.Ghosts V} {g : signers.Ghosts S} (replica : Replica V S v g)
    (begun : PenValue) (hs : List Handed) : Type 0 where
  pub accepted : AcceptsAll (own replica) (empty_book begun) hs
  pub book : ShowsBook replica (book_after (own replica) (empty_book begun) hs)

-- the disk holds the records of these frames for good, and the replica is as it is after them
pub record Reflects {V S D : Type 0} {v : verifiers.Ghosts V} {g : signers.Ghosts S} {d : disks.Ghosts D}
    (j : Journaled V S D v g d) (begun : PenValue) (hs : List Handed) : Type 0 where
  pub ready : j.closed ≡ false
  pub count : j.records ≡ length hs
  pub disk : EndsAt (entries_of hs) j.end (d.told j.disk)
  pub replica : HasTaken j.replica begun hs
