use Rattle.agreement_laws.proofs.Safety.{lock_in_of}
use Rattle.agreement_laws.proofs.states.lock_in.Goals as goal

pub returns : goal.returns
returns c = lock_in_of
