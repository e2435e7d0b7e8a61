use Rattle.client_laws.proofs.Following.{outcomes_stay}
use Rattle.client_laws.proofs.decisions.outcomes_stay.Goals as goal

pub returns : goal.returns
returns c = outcomes_stay
