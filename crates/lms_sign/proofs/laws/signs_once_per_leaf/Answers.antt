use Rattle.lms_sign.proofs.SpendingLaws.{once_per_leaf}
use Rattle.lms_sign.proofs.laws.signs_once_per_leaf.Goals as goal

pub returns : goal.returns
returns c = once_per_leaf
