use Rattle.std.proofs.Common.{◌≡◌, ◌++◌, map}
use Rattle.frame_views.specs.Items.{votes_of, votes_left}
use Rattle.frame_values.specs.Owned.{vote_value}
use Rattle.frame_values.proofs.decoding.lists.own_votes.Given as goal

abbrev pub invariant-loop-item : goal.invariant-loop-item
invariant-loop-item l = map vote_value l.parts.items ++ votes_left l.item-iterator ≡ votes_of l.votes
