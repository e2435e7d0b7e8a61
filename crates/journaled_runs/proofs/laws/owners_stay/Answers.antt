use Rattle.journaled_runs.proofs.Staying.{owners_stay}
use Rattle.journaled_runs.proofs.laws.owners_stay.Goals as goal

pub returns : goal.returns
returns c = owners_stay
