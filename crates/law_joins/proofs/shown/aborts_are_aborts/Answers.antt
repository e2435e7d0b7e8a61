use Rattle.law_joins.proofs.Proving.{aborts_are_aborts}
use Rattle.law_joins.proofs.shown.aborts_are_aborts.Goals as goal

pub returns : goal.returns
returns c = aborts_are_aborts c.commits_are_commits.ensures
