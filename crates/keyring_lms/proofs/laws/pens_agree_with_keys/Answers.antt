use Rattle.keyring_lms.proofs.PenLaws.{pens-agree}
use Rattle.keyring_lms.proofs.laws.pens_agree_with_keys.Goals as goal

pub returns : goal.returns
returns c = pens-agree
