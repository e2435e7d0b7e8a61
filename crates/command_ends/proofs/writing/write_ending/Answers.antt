use Rattle.std.proofs.Common.{rules}
use Rattle.command_ends.proofs.writing.write_ending.Goals as goal

pub returns-in-Ok-write-clause-answers : goal.returns-in-Ok-write-clause-answers
returns-in-Ok-write-clause-answers g c = search rules

pub returns-in-Ok-write-clause-complete : goal.returns-in-Ok-write-clause-complete
returns-in-Ok-write-clause-complete g c = search rules
