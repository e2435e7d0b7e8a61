use Rattle.basil_types.specs.Lists.{items_at}
use Rattle.frame_views.specs.Fitting.{after_reply}
use Rattle.frame_views.specs.Grammar.{reply_at}
use Rattle.basil_types.proofs.ListLaws.{GoesOn}
use Rattle.frame_views.proofs.items.replies.InvokesView.read_some.Given as goal

abbrev pub invariant-loop : goal.invariant-loop
invariant-loop l =
    GoesOn (reply_at l.bounds) after_reply l.count l.counter l.floor l.rest (items_at (reply_at l.bounds) after_reply l.count 0 l.bytes)
