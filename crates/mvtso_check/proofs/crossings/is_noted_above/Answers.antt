use Rattle.std.proofs.Common.{rules}
use Rattle.mvtso_check.proofs.crossings.is_noted_above.Goals as goal

pub returns-then-is_own : goal.returns-then-is_own
returns-then-is_own c = search rules
