use Rattle.std.proofs.Common.{◌≤◌}
use Rattle.basil_types.specs.Lists.{items_at}
use Rattle.basil_types.proofs.ListLaws.{GoesOn}
use Rattle.frame_views.specs.Fitting.{after_reply, widest}
use Rattle.frame_views.specs.Grammar.{reply_at}
use Rattle.frame_views.proofs.items.replies.InvokesView.at.Given as goal

abbrev pub invariant-loop-i : goal.invariant-loop-i
invariant-loop-i l =
    record {
      reads : GoesOn (reply_at widest) after_reply l.self.count l.i l.floor l.rest
          (items_at (reply_at widest) after_reply l.self.count 0 l.self.bytes.now);
      before : l.i ≤ l.place;
    }
