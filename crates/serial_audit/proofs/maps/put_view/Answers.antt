use Rattle.std.proofs.Common.{rules}
use Rattle.serial_audit.proofs.maps.put_view.Goals as goal

pub loop-item-preserved : goal.loop-item-preserved
loop-item-preserved c = search rules
