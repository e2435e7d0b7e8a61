use Rattle.std.proofs.Common.{rules}
use Rattle.message_pool.proofs.pool.Pool.room.Goals as goal

pub returns-clause-messages : goal.returns-clause-messages
returns-clause-messages c = search rules
