use Rattle.agreement_laws.proofs.Safety.{dependency_of}
use Rattle.agreement_laws.proofs.states.dependency.Goals as goal

pub returns : goal.returns
returns c = dependency_of
