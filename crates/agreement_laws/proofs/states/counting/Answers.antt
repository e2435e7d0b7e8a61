use Rattle.agreement_laws.proofs.Safety.{counting_of}
use Rattle.agreement_laws.proofs.states.counting.Goals as goal

pub returns : goal.returns
returns c = counting_of
