use Rattle.std.proofs.Common.{ap, Some, None, ◌≡◌}
use Rattle.journal_disk.specs.Foreseen.{StopState}
use Rattle.node_journal.specs.Steps.{answer_after, handed}
use Rattle.run_journals.specs.Journals.{JournalValue, took_of}
use Rattle.run_journals.specs.declared.took.Took.{Took}
use Rattle.run_journals.specs.Journals.{after_stop}
use Rattle.run_journals.specs.Kept.{IsLeft, in_its_write}
use Rattle.run_journals.proofs.StopLaws.{left-cut, left-still}
use Rattle.run_journals.proofs.TookLaws.{either, faulted-own, going-still, left-by, still-stopping, taken-cut}
use Rattle.run_journals.proofs.journal.RunJournal.take_stopping.Goals as goal

pub returns-in-Ok-clause-left : goal.returns-in-Ok-clause-left
returns-in-Ok-clause-left g c me begun stop x k near =
    absurd (c.in-Ok.ensures.foreseen begun x.taken (in_its_write stop) k.reflects (ap (λ (s : StopState). s.awaits) k.stops) near)

pub returns-in-Err-clause-took : goal.returns-in-Err-clause-took
returns-in-Err-clause-took g c me begun stop x k near =
    let old = c.args.self.now.journaled in
    let new = c.step-stepped.new.self in
    let h = handed c.args.now c.args.from c.args.frame.now in
    let a = answer_after me begun x.taken h in
    let fault = c.in-Err.fault in
    let faulted = faulted-own old me begun (Some (in_its_write stop)) x h fault k (c.in-Err.ensures.taken begun x.taken k.reflects) in
    either (λ (took : Took). took ≡ took_of x h a) c.cut_short.result fault
    (λ ne.
    c.cut_short.ensures.took me begun (Some (in_its_write stop)) x h a ne
    (going-still old new me begun (Some (in_its_write stop)) x k c.in-Err.ensures.own (c.in-Err.ensures.untouched ne)
    (c.in-Err.ensures.as_before begun x.taken k.reflects ne)) faulted)
    (λ e. taken-cut (new.disk.stops.awaits ≡ None) x h a c.cut_short.result fault e (c.cut_short.ensures.stopped e) faulted)

pub returns-in-Err-clause-left : goal.returns-in-Err-clause-left
returns-in-Err-clause-left g c me begun stop x k near =
    let old = c.args.self.now.journaled in
    let new = c.step-stepped.new.self in
    let h = handed c.args.now c.args.from c.args.frame.now in
    let fault = c.in-Err.fault in
    either (λ (took : Took). IsLeft me begun new (after_stop x h stop took)) c.cut_short.result fault
    (λ ne.
    still-stopping (λ (y : JournalValue). IsLeft me begun new y) x h stop c.cut_short.result (c.cut_short.ensures.untaken ne)
    (left-still new me begun (Some (in_its_write stop)) x
    (going-still old new me begun (Some (in_its_write stop)) x k c.in-Err.ensures.own (c.in-Err.ensures.untouched ne)
    (c.in-Err.ensures.as_before begun x.taken k.reflects ne))))
    (λ e.
    left-by (new.disk.stops.awaits ≡ None) (λ (y : JournalValue). IsLeft me begun new y) x h stop c.cut_short.result
    (c.cut_short.ensures.stopped e)
    (λ none.
    left-cut old new me begun stop x h k c.in-Err.ensures.own
    (c.in-Err.ensures.foreseen begun x.taken (in_its_write stop) k.reflects (ap (λ (s : StopState). s.awaits) k.stops) near) none))
