-- The next frame is taken, and its gate is near enough.
use Rattle.std.proofs.Common.{ap, refl, arith, length, ◌∙◌}
use Rattle.journal_records.proofs.RecordLaws.{length-record_of}
use Rattle.replica_core.specs.Answers.{answer}
use Rattle.replica_core.specs.Replicas.{empty_book}
use Rattle.replica_core.specs.Shown.{own}
use Rattle.replica_laws.specs.Steps.{book_after}
use Rattle.node_journal.specs.Entries.{entry_of, handed_in}
use Rattle.node_journal.specs.Journals.{entries_of}
use Rattle.node_journal.proofs.EntryLaws.{entries-read}
use Rattle.node_journal.proofs.RetracingLaws.{stands-more}
use Rattle.node_journal.proofs.TakenLaws.{ok-of}
use Rattle.node_journal.proofs.journaled.Journaled.go_on.Goals as goal

pub returns-then-is_full-clause-refused : goal.returns-then-is_full-clause-refused
returns-then-is_full-clause-refused g c book h shows e a near =
    let full = c.if-is_full.ensures.0 refl in
    absurd (omega (arith, c.gate_behind-end.ensures.place, length-record_of c.args.entry.now, near, full))

pub returns-in-Err-clause-refused : goal.returns-in-Err-clause-refused
returns-in-Err-clause-refused g c book h shows e a near =
    let d = ok-of (answer (own c.args.self.now.replica) h.now h.from book h.frame) a.answered in
    c.in-Err.ensures.refused book h d.0 shows (ap handed_in e ∙ entries-read h a.moment) d.1

pub returns-in-Ok-clause-goes_on : goal.returns-in-Ok-clause-goes_on
returns-in-Ok-clause-goes_on g c begun before s =
    let w = c.in-Ok.ensures.heard (book_after (own c.args.self.now.replica) (empty_book begun) before) s.replica.book in
    let gate = c.gate_behind-end.ensures.gate (entries_of before) (entry_of w.handed) s.gate (ap length w.written) in
    record {
      handed = w.handed;
      written = w.written;
      stands = stands-more c.args.self.now _ begun before w.handed w.done s s.ready refl gate c.in-Ok.ensures.own w.moment w.answered
          w.shows;
    }
