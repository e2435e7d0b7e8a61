use Rattle.agreement_laws.proofs.Safety.{after_each_answer}
use Rattle.agreement_laws.proofs.invariant.invariant_after_answer.Goals as goal

pub returns : goal.returns
returns c = after_each_answer
