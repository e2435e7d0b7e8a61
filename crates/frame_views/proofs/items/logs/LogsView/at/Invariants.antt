use Rattle.std.proofs.Common.{◌≤◌}
use Rattle.basil_types.specs.Lists.{items_at}
use Rattle.basil_types.proofs.ListLaws.{GoesOn}
use Rattle.frame_views.specs.Fitting.{after_log, widest}
use Rattle.frame_views.specs.Grammar.{log_at}
use Rattle.frame_views.proofs.items.logs.LogsView.at.Given as goal

abbrev pub invariant-loop-i : goal.invariant-loop-i
invariant-loop-i l =
    record {
      reads : GoesOn (log_at widest 0) after_log l.self.count l.i l.floor l.rest
          (items_at (log_at widest 0) after_log l.self.count 0 l.self.bytes.now);
      before : l.i ≤ l.place;
    }
