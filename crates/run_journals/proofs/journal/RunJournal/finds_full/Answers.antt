use Rattle.std.proofs.Common.{◌∙◌, ap, refl, subst, sym}
use Rattle.node_journal.specs.Steps.{answer_after, handed}
use Rattle.run_journals.specs.Journals.{after_take}
use Rattle.run_journals.specs.Kept.{IsJournal}
use Rattle.run_journals.proofs.TookLaws.{full-still}
use Rattle.run_journals.proofs.journal.RunJournal.finds_full.Goals as goal

pub returns-in-Ok-clause-journal : goal.returns-in-Ok-clause-journal
returns-in-Ok-clause-journal g c me begun x j =
    let h = handed c.args.now c.args.from c.args.frame.now in
    let full = sym (c.is_full_for.ensures me begun x h j refl) ∙ c.if-not-is_full_for.false in
    subst (λ y. IsJournal me begun c.take.new.self y)
    (ap (after_take x h) (c.in-Ok.ensures.took me begun x j) ∙ full-still x h (answer_after me begun x.taken h) full)
    (c.in-Ok.ensures.journal me begun x j)
