use Rattle.std.proofs.Common.{rules}
use Rattle.serial_audit.proofs.strays.stray_in.Goals as goal

pub returns-then-is_same : goal.returns-then-is_same
returns-then-is_same c = search rules
