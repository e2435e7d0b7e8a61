use Rattle.mvtso_check.proofs.SafeLaws.{dependencies_are_settled}
use Rattle.mvtso_check.proofs.laws.dependencies_are_settled.Goals as goal

pub returns : goal.returns
returns c = dependencies_are_settled
