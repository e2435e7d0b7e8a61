use Rattle.std.proofs.Common.{◌≡◌, ◌++◌, map}
use Rattle.frame_views.specs.Items.{tallies_of, tallies_left}
use Rattle.frame_values.specs.Owned.{tally_value}
use Rattle.frame_values.proofs.decoding.lists.own_tallies.Given as goal

abbrev pub invariant-loop-item : goal.invariant-loop-item
invariant-loop-item l = map tally_value l.parts.items ++ tallies_left l.item-iterator ≡ tallies_of l.tallies
