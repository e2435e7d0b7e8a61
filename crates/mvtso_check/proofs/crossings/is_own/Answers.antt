use Rattle.std.proofs.Common.{rules}
use Rattle.mvtso_check.proofs.crossings.is_own.Goals as goal

pub returns : goal.returns
returns c = search rules
