-- What the journals of replicas hold, and what frames and stops make of them.
use Rattle.std.specs.Prelude.{ℕ, ◌==◌, ◌&&◌, ◌++◌, List, [], ◌∷◌, length, Bool, nat_lt, if◌then◌else◌, find}
use Rattle.std.specs.Prelude.{Option, Some, None, Result, Ok, Err, slice_index}
use Rattle.journal_disk.specs.declared.disk.Stop.{Stop}
use Rattle.journal_records.specs.declared.gates.TheConstants.{OPEN}
use Rattle.journal_records.specs.Stopping.{and_if}
use Rattle.node_journal.specs.declared.limits.TheConstants.{JOURNAL_BYTES}
use Rattle.node_journal.specs.Journals.{journal_bytes}
use Rattle.node_journal.specs.Steps.{answer_after}
use Rattle.node_steps.specs.Pens.{PenValue}
use Rattle.replica_core.specs.declared.refusal.Refusal.{Refusal}
use Rattle.replica_core.specs.Replicas.{Done, ReplicaSelf}
use Rattle.replica_laws.specs.Steps.{Handed}
use Rattle.run_journals.specs.declared.took.Took.{Took}
use Rattle.run_journals.specs.declared.took.Took.TheVariants.{Full, Refused, Taken}

-- the journal of a replica: what it took, in order, and the stops of its disk, in order
pub record JournalValue : Type 0 where
  pub shard : ℕ
  pub index : ℕ
  pub taken : List Handed
  pub stops : List Stop

-- whether it is that of this replica
abbrev pub is_its : (shard index : ℕ) → JournalValue → Bool
is_its shard index journal = (journal.shard == shard) && (journal.index == index)

-- the journal of this replica, if it has one
abbrev pub journal_at : List JournalValue → (shard index : ℕ) → Option JournalValue
journal_at journals shard index = find (is_its shard index) journals

-- before the first frame
abbrev pub fresh : (shard index : ℕ) → JournalValue
fresh shard index = record { shard = shard; index = index; taken = []; stops = [] }

-- ---- a frame

-- whether the journal would be too long with the record of this frame
abbrev pub is_full_for : JournalValue → Handed → Bool
is_full_for journal h = nat_lt JOURNAL_BYTES (journal_bytes (journal.taken ++ h ∷ []))

-- what it comes to of a frame, by what its replica answers
abbrev pub took_of : JournalValue → Handed → Result Done Refusal → Took
took_of journal h (Err refusal) = Refused
took_of journal h (Ok done) =
    if is_full_for journal h then Full (length journal.taken) (journal_bytes journal.taken) else Taken

-- what it comes to of a frame that its replica is handed next
abbrev pub took_next : ReplicaSelf → PenValue → JournalValue → Handed → Took
took_next me begun journal h = took_of journal h (answer_after me begun journal.taken h)

-- the record of a frame that is taken is written
abbrev pub after_take : JournalValue → Handed → Took → JournalValue
after_take journal h Taken = record journal { taken = journal.taken ++ h ∷ [] }
after_take journal h Refused = journal
after_take journal h (Full records bytes) = journal

-- ---- a stop

-- whether a disk that stops so within the step keeps the record: the second write, of the gate, left it open
abbrev pub keeps_record : (write : ℕ) → (bytes : List ℕ) → Bool
keeps_record write bytes = write == 2 && slice_index bytes 0 == OPEN

-- the disk stops within the step of a frame that is taken
abbrev pub after_stop : JournalValue → Handed → Stop → Took → JournalValue
after_stop journal h stop Taken = record journal {
  taken = and_if (keeps_record stop.write stop.bytes) journal.taken h;
  stops = journal.stops ++ stop ∷ [];
}
after_stop journal h stop Refused = journal
after_stop journal h stop (Full records bytes) = journal

-- ---- of several replicas

-- the journal of its replica is replaced
abbrev pub put_journal : JournalValue → List JournalValue → List JournalValue
put_journal x [] = []
put_journal x (y ∷ ys) = if is_its x.shard x.index y then x ∷ ys else y ∷ put_journal x ys

-- what a replica's journal comes to of a frame; a replica without one takes
abbrev pub took_among : (who : ℕ → ℕ → ReplicaSelf) (begun : ℕ → ℕ → PenValue) → Option JournalValue → Handed → Took
took_among who begun None h = Taken
took_among who begun (Some x) h = took_next (who x.shard x.index) (begun x.shard x.index) x h

-- the journals with what becomes of this one, if there is one
abbrev pub put_at : (JournalValue → JournalValue) → Option JournalValue → List JournalValue → List JournalValue
put_at becomes None journals = journals
put_at becomes (Some x) journals = put_journal (becomes x) journals

-- the records and bytes of the journal that is too long
abbrev pub fullness : Took → Option (ℕ × ℕ)
fullness Taken = None
fullness Refused = None
fullness (Full records bytes) = Some (records, bytes)
