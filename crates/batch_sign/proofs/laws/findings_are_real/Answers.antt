use Rattle.batch_sign.proofs.RealLaws.{findings-real}
use Rattle.batch_sign.proofs.laws.findings_are_real.Goals as goal

pub returns : goal.returns
returns c = findings-real
