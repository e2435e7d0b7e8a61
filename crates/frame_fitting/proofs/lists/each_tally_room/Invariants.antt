use Rattle.std.proofs.Common.{◌≡◌, map, drop}
use Rattle.frame_views.specs.Fitting.{bounds_of, after_tally}
use Rattle.frame_values.specs.Owned.{tally_value}
use Rattle.frame_fitting.specs.Room.{items_room, tally_room}
use Rattle.frame_fitting.proofs.lists.each_tally_room.Given as goal

abbrev pub invariant-loop-part : goal.invariant-loop-part
invariant-loop-part l = items_room (tally_room (bounds_of l.cluster)) after_tally l.floor (map tally_value (drop l.part-index l.tallies))
    l.left ≡ items_room (tally_room (bounds_of l.cluster)) after_tally 0 (map tally_value l.tallies) l.fn.room
