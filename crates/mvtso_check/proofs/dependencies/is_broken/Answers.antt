use Rattle.std.proofs.Common.{rules}
use Rattle.mvtso_check.proofs.dependencies.is_broken.Goals as goal

pub returns-in-Some : goal.returns-in-Some
returns-in-Some c = search rules
