use Rattle.std.proofs.Common.{◌≡◌, map, drop}
use Rattle.frame_views.specs.Fitting.{bounds_of, after_log}
use Rattle.frame_values.specs.Owned.{log_value}
use Rattle.frame_fitting.specs.Room.{items_room, log_room}
use Rattle.frame_fitting.proofs.lists.each_log_room.Given as goal

abbrev pub invariant-loop-part : goal.invariant-loop-part
invariant-loop-part l = items_room (log_room (bounds_of l.cluster) l.decided) after_log l.floor (map log_value (drop l.part-index l.logs))
    l.left ≡ items_room (log_room (bounds_of l.cluster) l.decided) after_log 0 (map log_value l.logs) l.fn.room
