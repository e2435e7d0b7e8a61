use Rattle.lms_sign.proofs.ValidLaws.{made-valid}
use Rattle.lms_sign.proofs.laws.made_is_valid.Goals as goal

pub returns : goal.returns
returns c = made-valid
