use Rattle.agreement_laws.proofs.Safety.{at_start}
use Rattle.agreement_laws.proofs.invariant.invariant_at_start.Goals as goal

pub returns : goal.returns
returns c = at_start
