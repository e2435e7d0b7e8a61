use Rattle.std.proofs.Common.{rules}
use Rattle.txn_meta.proofs.conflicts.meets.Goals as goal

pub returns-else-eq : goal.returns-else-eq
returns-else-eq c = search rules
