use Rattle.lms_sign.proofs.ValidLaws.{unrefused-is_valid}
use Rattle.lms_sign.proofs.laws.unrefused_is_valid.Goals as goal

pub returns : goal.returns
returns c = unrefused-is_valid
