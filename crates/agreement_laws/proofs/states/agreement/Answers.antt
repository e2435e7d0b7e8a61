use Rattle.agreement_laws.proofs.Safety.{agreement_of}
use Rattle.agreement_laws.proofs.states.agreement.Goals as goal

pub returns : goal.returns
returns c = agreement_of
