use Rattle.std.proofs.Common.{rules}
use Rattle.run_begun.proofs.begun.Begun.refuse.Goals as goal

pub returns-then-is_some-clause-fits : goal.returns-then-is_some-clause-fits
returns-then-is_some-clause-fits c = search rules

pub returns-then-is_some-clause-taken : goal.returns-then-is_some-clause-taken
returns-then-is_some-clause-taken c = search rules
