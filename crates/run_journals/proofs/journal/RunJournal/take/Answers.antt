use Rattle.std.proofs.Common.{None, ◌≡◌}
use Rattle.node_journal.specs.Steps.{answer_after, handed}
use Rattle.run_journals.specs.Journals.{JournalValue, took_next}
use Rattle.run_journals.specs.Kept.{IsGoing}
use Rattle.run_journals.proofs.TookLaws.{calm, faulted-own, going-still, journal-taking, still-taking}
use Rattle.run_journals.proofs.journal.RunJournal.take.Goals as goal

pub returns-in-Err-clause-took : goal.returns-in-Err-clause-took
returns-in-Err-clause-took g c me begun x j =
    let old = c.args.self.now.journaled in
    let h = handed c.args.now c.args.from c.args.frame.now in
    let k = j.going in
    calm (λ took. took ≡ took_next me begun x h) c.untaken.result c.in-Err.fault c.untaken.ensures.disk
    (λ ne.
    c.untaken.ensures.took me begun None x h (answer_after me begun x.taken h)
    (going-still old c.step-stepped.new.self me begun None x k c.in-Err.ensures.own (c.in-Err.ensures.untouched ne)
    (c.in-Err.ensures.as_before begun x.taken k.reflects ne))
    (faulted-own old me begun None x h c.in-Err.fault k (c.in-Err.ensures.taken begun x.taken k.reflects)))

pub returns-in-Err-clause-journal : goal.returns-in-Err-clause-journal
returns-in-Err-clause-journal g c me begun x j =
    let old = c.args.self.now.journaled in
    let h = handed c.args.now c.args.from c.args.frame.now in
    let k = j.going in
    journal-taking _ me begun x h c.untaken.result j.shard j.index
    (still-taking (λ (y : JournalValue). IsGoing me begun c.step-stepped.new.self None y) x h c.untaken.result c.in-Err.fault
    c.untaken.ensures.disk c.untaken.ensures.untaken
    (λ ne.
    going-still old c.step-stepped.new.self me begun None x k c.in-Err.ensures.own (c.in-Err.ensures.untouched ne)
    (c.in-Err.ensures.as_before begun x.taken k.reflects ne)))
