use Rattle.keyring_lms.proofs.PenLaws.{replay-pens}
use Rattle.keyring_lms.proofs.laws.replay_pens_are_accepted.Goals as goal

pub returns : goal.returns
returns c = replay-pens
