use Rattle.std.proofs.Common.{◌≡◌, map, drop}
use Rattle.frame_views.specs.Fitting.{bounds_of, after_vote}
use Rattle.frame_values.specs.Owned.{vote_value}
use Rattle.frame_fitting.specs.Room.{items_room, vote_room}
use Rattle.frame_fitting.proofs.lists.each_vote_room.Given as goal

abbrev pub invariant-loop-part : goal.invariant-loop-part
invariant-loop-part l = items_room (vote_room (bounds_of l.cluster)) after_vote l.floor (map vote_value (drop l.part-index l.votes)) l.left
    ≡ items_room (vote_room (bounds_of l.cluster)) after_vote 0 (map vote_value l.votes) l.fn.room
