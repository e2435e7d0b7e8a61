use Rattle.mvtso_check.proofs.SafeLaws.{nothing_conflicts}
use Rattle.mvtso_check.proofs.laws.nothing_that_stands_conflicts.Goals as goal

pub returns : goal.returns
returns c = nothing_conflicts
