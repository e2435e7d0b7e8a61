use Rattle.journaled_runs.proofs.Staying.{owners_outlast_stops}
use Rattle.journaled_runs.proofs.laws.owners_outlast_stops.Goals as goal

pub returns : goal.returns
returns c = owners_outlast_stops
