use Rattle.std.proofs.Common.{rules}
use Rattle.hss_sign.proofs.levels.Levels.prepare.Goals as goal

pub returns-then-left-gt0-clause-spent : goal.returns-then-left-gt0-clause-spent
returns-then-left-gt0-clause-spent c = search rules

pub returns-then-left-gt0-clause-memory : goal.returns-then-left-gt0-clause-memory
returns-then-left-gt0-clause-memory c = search rules

pub returns-clause-kept : goal.returns-clause-kept
returns-clause-kept c = search rules

pub returns-clause-number : goal.returns-clause-number
returns-clause-number c = search rules
