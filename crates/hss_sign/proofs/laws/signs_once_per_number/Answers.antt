use Rattle.hss_sign.proofs.SpendingLaws.{once_per_number}
use Rattle.hss_sign.proofs.laws.signs_once_per_number.Goals as goal

pub returns : goal.returns
returns c = once_per_number
