use Rattle.keyring_lms.proofs.PenLaws.{accepts-valid}
use Rattle.keyring_lms.proofs.laws.accepted_is_valid.Goals as goal

pub returns : goal.returns
returns c = accepts-valid
