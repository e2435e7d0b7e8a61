use Rattle.std.proofs.Common.{rules}
use Rattle.run_journals.proofs.took.keeps_record.Goals as goal

pub returns-then-write-eq2 : goal.returns-then-write-eq2
returns-then-write-eq2 c = search rules

pub returns-else-write-eq2 : goal.returns-else-write-eq2
returns-else-write-eq2 c = search rules
