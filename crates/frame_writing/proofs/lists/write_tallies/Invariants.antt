use Rattle.std.proofs.Common.{◌≡◌, ◌++◌, ◌∷◌, length, map, take}
use Rattle.std.specs.List.{flat_map}
use Rattle.frame_views.specs.Spelling.{tally_bytes}
use Rattle.frame_values.specs.Owned.{tally_value}
use Rattle.frame_writing.proofs.lists.write_tallies.Given as goal

abbrev pub invariant-loop-part : goal.invariant-loop-part
invariant-loop-part l =
    (l.out.kept ≡ l.fn.out.kept) ×
    (l.out.written ≡ l.fn.out.written ++ length l.tallies ∷ flat_map tally_bytes (map tally_value (take l.part-index l.tallies)))
