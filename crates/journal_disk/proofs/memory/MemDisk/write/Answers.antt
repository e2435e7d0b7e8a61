use Rattle.std.proofs.Common.{rules}
use Rattle.journal_disk.proofs.memory.MemDisk.write.Goals as goal

pub put-requires : goal.put-requires
put-requires c = search rules

pub returns-clause-listed : goal.returns-clause-listed
returns-clause-listed c = search rules

pub returns-clause-refused : goal.returns-clause-refused
returns-clause-refused c = search rules

pub returns-then-stops_next-clause-refused : goal.returns-then-stops_next-clause-refused
returns-then-stops_next-clause-refused c = search rules

pub returns-then-stops_next-clause-failed : goal.returns-then-stops_next-clause-failed
returns-then-stops_next-clause-failed c = search rules
