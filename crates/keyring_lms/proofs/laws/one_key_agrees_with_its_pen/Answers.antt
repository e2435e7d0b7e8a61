use Rattle.keyring_lms.proofs.PenLaws.{one_key}
use Rattle.keyring_lms.proofs.laws.one_key_agrees_with_its_pen.Goals as goal

pub returns : goal.returns
returns c = one_key
