-- Why a journal isn't begun or opened.
use Rattle.std.specs.Prelude.{◌≡◌, ℕ, ◌+◌, ◌<◌, ◌++◌, ◌⊎◌, length, Option, option_map, ⊤, List}
use Rattle.std.specs.List.{flat_map}
use Rattle.basil_types.specs.Causes.{Rose}
use Rattle.basil_types.specs.Setting.{Setting}
use Rattle.certificates.specs.Accepted.{Accepted}
use Rattle.journal_disk.specs.Disk.{DiskState, OnTold, keeps}
use Rattle.journal_records.specs.declared.limits.TheConstants.{JOURNAL_LIMIT}
use Rattle.journal_records.specs.Found.{BeginsClosed, BeginsWith}
use Rattle.journal_records.specs.Journal.{last_gate, opened}
use Rattle.keyring.specs.Signing.{Signing}
use Rattle.node_steps.specs.Pens.{PenValue}
use Rattle.replica_core.specs.Replicas.{ReplicaSelf, BookValue, empty_book}
use Rattle.replica_laws.specs.Steps.{Handed, book_after}
use Rattle.node_journal.specs.declared.fault.JournalFault.{JournalFault}
use Rattle.node_journal.specs.declared.fault.JournalFault.TheVariants.{DiskFault, BadJournal, NoMemory}
use Rattle.node_journal.specs.Entries.{entry_of}
use Rattle.node_journal.specs.Journals.{Accepts, AcceptsAll, entries_of}

-- the replica of this index of a shard, by what its keyring accepts and how its pen signs
abbrev pub self_in : Setting → (shard index : ℕ) → Accepted → Signing → ReplicaSelf
self_in cluster shard index accepts signing =
    record {
      home = record { cluster = cluster; shard = shard };
      index = index;
      accepts = accepts;
      signing = signing;
    }

-- a bad journal, where one is to begin, is a byte
abbrev pub IsNotBegun : JournalFault → Option DiskState → Type 0
IsNotBegun DiskFault told = ⊤
IsNotBegun (BadJournal place) told = (place ≡ 0) × OnTold (λ s. 0 < length s.contents) told
IsNotBegun NoMemory told = ⊤

-- a fault of the disk comes where its count rose, and no other does
abbrev pub HasRisen : JournalFault → (before now : ℕ) → Type 0
HasRisen DiskFault before now = Rose before now
HasRisen (BadJournal place) before now = now ≡ before
HasRisen NoMemory before now = now ≡ before

-- it keeps what its reads give, unless a call failed
abbrev pub IsKeptBut : JournalFault → (old new : Option DiskState) → Type 0
IsKeptBut DiskFault old new = (new ≡ old) ⊎ (new ≡ option_map keeps old)
IsKeptBut (BadJournal place) old new = new ≡ option_map keeps old
IsKeptBut NoMemory old new = new ≡ option_map keeps old

-- a bad journal is bad at this place
abbrev pub IsAt : ℕ → JournalFault → Type 0
IsAt at DiskFault = ⊤
IsAt at (BadJournal place) = place ≡ at
IsAt at NoMemory = ⊤

-- behind this place stands the record of a frame that the replica accepts next, and the gate behind it is near enough
pub record HasNext (me : ReplicaSelf) (book : BookValue) (place : ℕ) (behind : List ℕ) : Type 0 where
  pub next : Handed
  pub stands : BeginsWith (entry_of next) behind
  pub accepted : Accepts me book next
  pub near : place + length (opened (entry_of next)) < JOURNAL_LIMIT

-- up to this place, which is near enough, stand the records of frames that the replica accepts, and there is neither a
-- closed gate nor the record of one that it accepts next
pub record IsBadAt (me : ReplicaSelf) (begun : PenValue) (bytes : List ℕ) (place : ℕ) : Type 0 where
  pub hs : List Handed
  pub behind : List ℕ
  pub accepted : AcceptsAll me (empty_book begun) hs
  pub are : bytes ≡ flat_map opened (entries_of hs) ++ behind
  pub gate : place ≡ last_gate (entries_of hs)
  pub near : place < JOURNAL_LIMIT
  pub not_closed : ¬ BeginsClosed behind
  pub no_next : ¬ HasNext me (book_after me (empty_book begun) hs) place behind

-- a bad journal is bad where it is told to be
abbrev pub IsBad : ReplicaSelf → PenValue → (bytes : List ℕ) → JournalFault → Type 0
IsBad me begun bytes DiskFault = ⊤
IsBad me begun bytes (BadJournal place) = IsBadAt me begun bytes place
IsBad me begun bytes NoMemory = ⊤

-- the journal isn't bad
abbrev pub IsNotBad : JournalFault → Type 0
IsNotBad DiskFault = ⊤
IsNotBad (BadJournal place) = ⊥
IsNotBad NoMemory = ⊤
