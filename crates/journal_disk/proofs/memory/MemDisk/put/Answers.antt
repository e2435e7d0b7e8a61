use Rattle.std.proofs.Common.{rules}
use Rattle.journal_disk.proofs.memory.MemDisk.put.Goals as goal

pub returns-clause-written : goal.returns-clause-written
returns-clause-written c = search rules
