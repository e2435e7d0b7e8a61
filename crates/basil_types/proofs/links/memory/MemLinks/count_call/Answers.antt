use Rattle.std.proofs.Common.{rules}
use Rattle.basil_types.proofs.links.memory.MemLinks.count_call.Goals as goal

pub returns-clause-counted : goal.returns-clause-counted
returns-clause-counted c = search rules
