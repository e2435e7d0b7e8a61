use Rattle.mv_store.proofs.GreatestLaws.{greatest_answers, greatest_decide}
use Rattle.mv_store.proofs.laws.greatest_reads_decide.Goals as goal

pub returns-clause-answers : goal.returns-clause-answers
returns-clause-answers c = greatest_answers

pub returns-clause-decide : goal.returns-clause-decide
returns-clause-decide c = greatest_decide
