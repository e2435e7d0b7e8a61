use Rattle.std.proofs.Common.{◌≡◌, ◌++◌, map}
use Rattle.frame_views.specs.Items.{replies_of, replies_left}
use Rattle.frame_values.specs.Owned.{reply_value}
use Rattle.frame_values.proofs.decoding.lists.own_replies.Given as goal

abbrev pub invariant-loop-item : goal.invariant-loop-item
invariant-loop-item l = map reply_value l.parts.items ++ replies_left l.item-iterator ≡ replies_of l.replies
