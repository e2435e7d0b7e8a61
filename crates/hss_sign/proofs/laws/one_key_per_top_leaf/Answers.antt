use Rattle.hss_sign.proofs.SpendingLaws.{one_key}
use Rattle.hss_sign.proofs.laws.one_key_per_top_leaf.Goals as goal

pub returns : goal.returns
returns c = one_key
