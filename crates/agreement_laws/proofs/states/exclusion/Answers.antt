use Rattle.agreement_laws.proofs.Safety.{exclusion_of}
use Rattle.agreement_laws.proofs.states.exclusion.Goals as goal

pub returns : goal.returns
returns c = exclusion_of
