use Rattle.std.proofs.Common.{◌≡◌}
use Rattle.basil_types.specs.Replayed.{put_writes}
use Rattle.basil_types.specs.Shown.{transaction_of, writes_left}
use Rattle.serial_audit.proofs.maps.put_view.Given as goal

abbrev pub invariant-loop-item : goal.invariant-loop-item
invariant-loop-item l =
    put_writes l.version l.fn.map.entries (transaction_of l.fn.view).writes
    ≡ put_writes l.version l.map.entries (writes_left l.item-iterator)
