use Rattle.std.proofs.Common.{rules}
use Rattle.serial_audit.proofs.audit.audit.Goals as goal

pub returns : goal.returns
returns c = search rules
