use Rattle.std.proofs.Common.{rules}
use Rattle.serial_audit.proofs.strays.earlier.Goals as goal

pub returns-then-comes_before : goal.returns-then-comes_before
returns-then-comes_before c = search rules

pub returns-else-comes_before : goal.returns-else-comes_before
returns-else-comes_before c = search rules
