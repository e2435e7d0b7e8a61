use Rattle.std.proofs.Common.{◌≡◌, map, drop}
use Rattle.frame_views.specs.Fitting.{bounds_of, after_reply}
use Rattle.frame_values.specs.Owned.{reply_value}
use Rattle.frame_fitting.specs.Room.{items_room, reply_room}
use Rattle.frame_fitting.proofs.lists.each_reply_room.Given as goal

abbrev pub invariant-loop-part : goal.invariant-loop-part
invariant-loop-part l = items_room (reply_room (bounds_of l.cluster)) after_reply l.floor (map reply_value (drop l.part-index l.replies))
    l.left ≡ items_room (reply_room (bounds_of l.cluster)) after_reply 0 (map reply_value l.replies) l.fn.room
