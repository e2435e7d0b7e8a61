use Rattle.std.proofs.Common.{rules}
use Rattle.mvtso_check.proofs.check.is_late.Goals as goal

pub returns-in-Some : goal.returns-in-Some
returns-in-Some c = search rules
