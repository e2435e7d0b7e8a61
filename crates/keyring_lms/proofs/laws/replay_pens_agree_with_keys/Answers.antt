use Rattle.keyring_lms.proofs.PenLaws.{replay-agrees}
use Rattle.keyring_lms.proofs.laws.replay_pens_agree_with_keys.Goals as goal

pub returns : goal.returns
returns c = replay-agrees
