use Rattle.std.proofs.Common.{rules}
use Rattle.message_pool.proofs.pool.lost.Goals as goal

pub returns-in-Delivered-clause-exact : goal.returns-in-Delivered-clause-exact
returns-in-Delivered-clause-exact c = search rules
