use Rattle.serial_audit.proofs.Judging.{stray_is_first}
use Rattle.serial_audit.proofs.laws.stray_is_first.Goals as goal

pub returns : goal.returns
returns c = stray_is_first
