use Rattle.agreement_laws.proofs.Safety.{in_every_run}
use Rattle.agreement_laws.proofs.invariant.invariant_in_every_run.Goals as goal

pub returns : goal.returns
returns c = in_every_run
