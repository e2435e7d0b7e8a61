use Rattle.std.proofs.Common.{rules}
use Rattle.run_begun.proofs.begun.Begun.forming_fault.Goals as goal

pub returns-clause-exact : goal.returns-clause-exact
returns-clause-exact c = search rules

pub returns-clause-few_reads : goal.returns-clause-few_reads
returns-clause-few_reads c = search rules
