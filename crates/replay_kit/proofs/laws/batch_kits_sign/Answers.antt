use Rattle.replay_kit.specs.ValueLaws.{batch-signed}
use Rattle.replay_kit.proofs.laws.batch_kits_sign.Goals as goal

pub returns : goal.returns
returns c = batch-signed
