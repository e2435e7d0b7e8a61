use Rattle.agreement_laws.proofs.Staying.{with_more_events}
use Rattle.agreement_laws.proofs.runs.certificates_stay_in_every_run.Goals as goal

pub returns : goal.returns
returns c = with_more_events
