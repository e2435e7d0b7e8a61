use Rattle.agreement_laws.proofs.DividedRun.{settled}
use Rattle.agreement_laws.proofs.examples.a_divided_log_is_settled.Goals as goal

pub returns : goal.returns
returns c = settled
