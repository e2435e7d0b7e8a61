use Rattle.std.proofs.Common.{rules}
use Rattle.journal_disk.proofs.memory.MemDisk.revive.Goals as goal

pub returns-clause-exact : goal.returns-clause-exact
returns-clause-exact c = search rules
