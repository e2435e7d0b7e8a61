use Rattle.std.proofs.Common.{◌≡◌, ◌++◌, map}
use Rattle.frame_views.specs.Items.{elects_of, elects_left}
use Rattle.frame_values.specs.Owned.{word_value}
use Rattle.frame_values.proofs.decoding.lists.own_words.Given as goal

abbrev pub invariant-loop-item : goal.invariant-loop-item
invariant-loop-item l = map word_value l.parts.items ++ elects_left l.item-iterator ≡ elects_of l.words
