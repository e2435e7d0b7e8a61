use Rattle.serial_audit.proofs.Judging.{serial_is_right}
use Rattle.serial_audit.proofs.laws.serial_is_right.Goals as goal

pub returns : goal.returns
returns c = serial_is_right
