use Rattle.law_joins.proofs.Voting.{verdicts_are_sound}
use Rattle.law_joins.proofs.verdicts.verdicts_are_sound.Goals as goal

pub returns : goal.returns
returns c = verdicts_are_sound c.nothing_that_stands_conflicts.ensures c.dependencies_are_settled.ensures
