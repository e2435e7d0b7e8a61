use Rattle.std.proofs.Common.{rules}
use Rattle.message_pool.proofs.posted.Posted.waits.Goals as goal

pub returns-in-Lost : goal.returns-in-Lost
returns-in-Lost c = search rules
