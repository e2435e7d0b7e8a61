use Rattle.mvtso_check.proofs.StandingLaws.{stores_follow}
use Rattle.mvtso_check.proofs.laws.stores_follow_tables.Goals as goal

pub returns : goal.returns
returns c = stores_follow
