use Rattle.agreement_laws.proofs.Staying.{shown_in_every_run}
use Rattle.agreement_laws.proofs.runs.shown_are_possible_in_every_run.Goals as goal

pub returns : goal.returns
returns c = shown_in_every_run
