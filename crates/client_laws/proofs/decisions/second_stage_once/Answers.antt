use Rattle.client_laws.proofs.Settling.{starts_once}
use Rattle.client_laws.proofs.decisions.second_stage_once.Goals as goal

pub returns : goal.returns
returns c = starts_once
