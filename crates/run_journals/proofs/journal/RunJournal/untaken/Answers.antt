use Rattle.std.proofs.Common.{◌∙◌}
use Rattle.run_journals.proofs.TookLaws.{took-full-by}
use Rattle.run_journals.proofs.journal.RunJournal.untaken.Goals as goal

pub returns-in-Full-clause-took : goal.returns-in-Full-clause-took
returns-in-Full-clause-took g c me begun awaits value h answered k f =
    took-full-by value h answered c.args.fault _ _ (c.records.ensures ∙ k.reflects.count)
    (c.bytes.ensures begun value.taken k.reflects) c.in-Full.is f
