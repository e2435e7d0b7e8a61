use Rattle.std.proofs.Common.{rules}
use Rattle.basil_types.proofs.source.MemSourceSource.read.Goals as goal

pub returns-clause-cause : goal.returns-clause-cause
returns-clause-cause c = search rules

pub returns-clause-counted : goal.returns-clause-counted
returns-clause-counted c = search rules
