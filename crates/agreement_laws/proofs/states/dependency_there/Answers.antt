use Rattle.agreement_laws.proofs.Safety.{dependency_there_of}
use Rattle.agreement_laws.proofs.states.dependency_there.Goals as goal

pub returns : goal.returns
returns c = dependency_there_of
