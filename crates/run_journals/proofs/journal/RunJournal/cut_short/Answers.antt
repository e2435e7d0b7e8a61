use Rattle.run_journals.proofs.journal.RunJournal.cut_short.Goals as goal

pub returns-then-ne-clause-took : goal.returns-then-ne-clause-took
returns-then-ne-clause-took g c me begun awaits x h answered ne k f = c.untaken.ensures.took me begun awaits x h answered k f
