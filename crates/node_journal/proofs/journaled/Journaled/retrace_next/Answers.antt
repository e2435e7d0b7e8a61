-- What is found at the gate is the record that was taken, or one that isn't.
use Rattle.std.proofs.Common.{List, ℕ, ◌+◌, ◌<◌, drop, length, refl, sym, subst, take, ◌∙◌}
use Rattle.journal_disk.specs.Disk.{DiskState}
use Rattle.journal_records.specs.declared.found.Found.{Found}
use Rattle.journal_records.specs.declared.limits.TheConstants.{JOURNAL_LIMIT}
use Rattle.journal_records.specs.Found.{Tells}
use Rattle.journal_records.specs.Journal.{opened}
use Rattle.replica_core.specs.Replicas.{empty_book}
use Rattle.replica_core.specs.Shown.{own}
use Rattle.replica_laws.specs.Steps.{book_after}
use Rattle.node_journal.specs.declared.fault.JournalFault.TheVariants.{BadJournal}
use Rattle.node_journal.specs.Entries.{entry_of}
use Rattle.node_journal.proofs.BadLaws.{same-opened}
use Rattle.node_journal.proofs.FrontLaws.{bad-front, front-more, not-closed, on_told}
use Rattle.node_journal.proofs.RetracingLaws.{stands-still}
use Rattle.node_journal.proofs.journaled.Journaled.retrace_next.Goals as goal

pub returns-in-Ok-clause-retraces : goal.returns-in-Ok-clause-retraces
returns-in-Ok-clause-retraces g c s begun told f =
    let me = c.args.self.now in
    let tells = subst (λ (f : Found). Tells f c.next.new.buffer (drop me.end s.contents)) c.in-Ok-Record.field-0-is
    (on_told (λ (s : DiskState). Tells c.in-Ok-Record.field-0 c.next.new.buffer (drop me.end s.contents)) (g.D.Disk.told me.disk) s told
    c.in-Ok-Record.ensures.told) in
    front-more me c.go_on.new.self begun s.contents f _ tells
    (c.in-Ok.ensures.goes_on begun f.hs (stands-still me _ begun f.hs f.stands refl refl refl refl))

pub returns-in-Err-go_on-clause-retraces : goal.returns-in-Err-go_on-clause-retraces
returns-in-Err-go_on-clause-retraces g c s begun told f =
    let me = c.args.self.now in
    let entry : List ℕ = take c.in-Ok-Record.count c.next.new.buffer in
    let book = book_after (own me.replica) (empty_book begun) f.hs in
    let tells = subst (λ (f : Found). Tells f c.next.new.buffer (drop me.end s.contents)) c.in-Ok-Record.field-0-is
    (on_told (λ (s : DiskState). Tells c.in-Ok-Record.field-0 c.next.new.buffer (drop me.end s.contents)) (g.D.Disk.told me.disk) s told
    c.in-Ok-Record.ensures.told) in
    bad-front me begun s.contents c.in-Err-go_on.fault f c.in-Err-go_on.ensures.place (λ other. not-closed entry _ tells)
    (λ other n.
    let same = (same-opened entry (entry_of n.next) tells.behind n.stands.behind tells.fits n.stands.fits
    (sym tells.are ∙ n.stands.are)).0 in
    other (c.in-Err-go_on.ensures.refused book n.next f.stands.replica.book same n.accepted
    (subst (λ (e : List ℕ). me.end + length (opened e) < JOURNAL_LIMIT) (sym same) n.near)))

pub returns-in-Ok-Broken-clause-retraces : goal.returns-in-Ok-Broken-clause-retraces
returns-in-Ok-Broken-clause-retraces g c s begun told f =
    let me = c.args.self.now in
    let tells = subst (λ (f : Found). Tells f c.next.new.buffer (drop me.end s.contents)) c.in-Ok-Broken.field-0-is
    (on_told (λ (s : DiskState). Tells c.in-Ok-Broken.field-0 c.next.new.buffer (drop me.end s.contents)) (g.D.Disk.told me.disk) s told
    c.in-Ok-Broken.ensures.told) in
    bad-front me begun s.contents (BadJournal me.end) f refl (λ other. tells.not_closed)
    (λ other n. tells.no_record (entry_of n.next) n.stands)
