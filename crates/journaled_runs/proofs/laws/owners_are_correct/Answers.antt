use Rattle.journaled_runs.proofs.FirstOwners.{owners_are_correct}
use Rattle.journaled_runs.proofs.laws.owners_are_correct.Goals as goal

pub returns : goal.returns
returns c = owners_are_correct
