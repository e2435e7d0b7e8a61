use Rattle.std.proofs.Common.{◌≡◌, ◌++◌, ◌∷◌, length, map, take}
use Rattle.std.specs.List.{flat_map}
use Rattle.frame_views.specs.Spelling.{reply_bytes}
use Rattle.frame_values.specs.Owned.{reply_value}
use Rattle.frame_writing.proofs.lists.write_replies.Given as goal

abbrev pub invariant-loop-part : goal.invariant-loop-part
invariant-loop-part l =
    (l.out.kept ≡ l.fn.out.kept) ×
    (l.out.written ≡ l.fn.out.written ++ length l.replies ∷ flat_map reply_bytes (map reply_value (take l.part-index l.replies)))
