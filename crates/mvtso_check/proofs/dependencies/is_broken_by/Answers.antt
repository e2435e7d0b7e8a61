use Rattle.std.proofs.Common.{rules}
use Rattle.mvtso_check.proofs.dependencies.is_broken_by.Goals as goal

pub returns-else-not-writes_key : goal.returns-else-not-writes_key
returns-else-not-writes_key c = search rules
