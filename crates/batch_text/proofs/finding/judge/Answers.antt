use Rattle.std.proofs.Common.{rules}
use Rattle.batch_text.proofs.finding.judge.Goals as goal

pub returns-in-Some : goal.returns-in-Some
returns-in-Some c = search rules
