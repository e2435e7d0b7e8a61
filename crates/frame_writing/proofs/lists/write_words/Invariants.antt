use Rattle.std.proofs.Common.{◌≡◌, ◌++◌, ◌∷◌, length, map, take}
use Rattle.std.specs.List.{flat_map}
use Rattle.frame_views.specs.Spelling.{word_bytes}
use Rattle.frame_values.specs.Owned.{word_value}
use Rattle.frame_writing.proofs.lists.write_words.Given as goal

abbrev pub invariant-loop-part : goal.invariant-loop-part
invariant-loop-part l =
    (l.out.kept ≡ l.fn.out.kept) ×
    (l.out.written ≡ l.fn.out.written ++ length l.words ∷ flat_map word_bytes (map word_value (take l.part-index l.words)))
