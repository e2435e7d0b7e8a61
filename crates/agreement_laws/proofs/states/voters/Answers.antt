use Rattle.agreement_laws.proofs.Safety.{voters_of}
use Rattle.agreement_laws.proofs.states.voters.Goals as goal

pub returns : goal.returns
returns c = voters_of
