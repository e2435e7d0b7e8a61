use Rattle.std.proofs.Common.{rules}
use Rattle.batch_sign.proofs.hashing.parent_of.Goals as goal

pub returns-then-r-eq0 : goal.returns-then-r-eq0
returns-then-r-eq0 c = search rules
