use Rattle.std.proofs.Common.{◌≡◌, map, drop}
use Rattle.frame_views.specs.Fitting.{bounds_of, after_word}
use Rattle.frame_values.specs.Owned.{word_value}
use Rattle.frame_fitting.specs.Room.{items_room, word_room}
use Rattle.frame_fitting.proofs.lists.each_word_room.Given as goal

abbrev pub invariant-loop-part : goal.invariant-loop-part
invariant-loop-part l = items_room (word_room (bounds_of l.cluster)) after_word l.floor (map word_value (drop l.part-index l.words)) l.left
    ≡ items_room (word_room (bounds_of l.cluster)) after_word 0 (map word_value l.words) l.fn.room
