-- Bytes that hold what a replica was handed.
use Rattle.std.specs.Prelude.{ℕ, ◌+◌, ◌<◌, ◌⊎◌, ◌++◌, List, [], ◌∷◌, map, IsOk, ⊤}
use Rattle.basil_types.specs.Limits.{IsU64}
use Rattle.journal_disk.specs.Disk.{Change, DiskState, MightLeave}
use Rattle.journal_records.specs.declared.limits.TheConstants.{JOURNAL_LIMIT}
use Rattle.journal_records.specs.Journal.{Follows, Holds, last_gate}
use Rattle.node_steps.specs.Pens.{PenValue}
use Rattle.replica_core.specs.Answers.{answer}
use Rattle.replica_core.specs.Replicas.{ReplicaSelf, BookValue, empty_book}
use Rattle.replica_laws.specs.Steps.{Handed, step}
use Rattle.node_journal.specs.declared.limits.TheConstants.{JOURNAL_BYTES}
use Rattle.node_journal.specs.Entries.{entry_of}

abbrev pub entries_of : List Handed → List (List ℕ)
entries_of hs = map entry_of hs

-- ---- what is written

-- the moment is one of a clock, and the replica accepts the frame
pub record Accepts (me : ReplicaSelf) (book : BookValue) (h : Handed) : Type 0 where
  pub moment : IsU64 h.now
  pub answered : IsOk (answer me h.now h.from book h.frame)

-- each where it comes
abbrev pub AcceptsAll : ReplicaSelf → BookValue → List Handed → Type 0
AcceptsAll me book [] = ⊤
AcceptsAll me book (h ∷ hs) = Accepts me book h × AcceptsAll me (step me book h).book hs

-- the records of these frames, which the replica accepts from the first on, its pen at this place
pub record Keeps (me : ReplicaSelf) (begun : PenValue) (hs : List Handed) (bytes : List ℕ) : Type 0 where
  pub holds : Holds (entries_of hs) bytes
  pub near : last_gate (entries_of hs) < JOURNAL_LIMIT
  pub accepted : AcceptsAll me (empty_book begun) hs

-- of these frames, or of those and one more
abbrev pub KeepsEither : ReplicaSelf → PenValue → List Handed → Handed → (bytes : List ℕ) → Type 0
KeepsEither me begun hs h bytes = Keeps me begun hs bytes ⊎ Keeps me begun (hs ++ h ∷ []) bytes

-- reads give the records of the frames, or of those and one more, and so does whatever a stop since then might have
-- left
pub record LosesNone (me : ReplicaSelf) (begun : PenValue) (hs : List Handed) (h : Handed) (then_past : List Change)
    (s : DiskState) : Type 0 where
  pub follows : Follows then_past s.past
  pub now : KeepsEither me begun hs h s.contents
  pub stopped : (left : List ℕ) → MightLeave then_past s.past left → KeepsEither me begun hs h left

-- ---- how long it is

-- the first gate, and each record with the gate behind it
abbrev pub journal_bytes : List Handed → ℕ
journal_bytes hs = last_gate (entries_of hs) + 1

abbrev pub IsTooLong : List Handed → Type 0
IsTooLong hs = JOURNAL_BYTES < journal_bytes hs
