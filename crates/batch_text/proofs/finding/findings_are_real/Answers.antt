use Rattle.batch_text.proofs.Real.{finding-real}
use Rattle.batch_text.proofs.finding.findings_are_real.Goals as goal

pub returns : goal.returns
returns c = finding-real c.findings_are_real.ensures
