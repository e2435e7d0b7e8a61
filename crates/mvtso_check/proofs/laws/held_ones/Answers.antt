use Rattle.mvtso_check.proofs.StandingLaws.{held_ones}
use Rattle.mvtso_check.proofs.laws.held_ones.Goals as goal

pub returns : goal.returns
returns c = held_ones
