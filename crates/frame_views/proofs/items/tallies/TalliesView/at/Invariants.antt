use Rattle.std.proofs.Common.{◌≤◌}
use Rattle.basil_types.specs.Lists.{items_at}
use Rattle.basil_types.proofs.ListLaws.{GoesOn}
use Rattle.frame_views.specs.Fitting.{after_tally, widest}
use Rattle.frame_views.specs.Grammar.{tally_at}
use Rattle.frame_views.proofs.items.tallies.TalliesView.at.Given as goal

abbrev pub invariant-loop-i : goal.invariant-loop-i
invariant-loop-i l =
    record {
      reads : GoesOn (tally_at widest) after_tally l.self.count l.i l.floor l.rest
          (items_at (tally_at widest) after_tally l.self.count 0 l.self.bytes.now);
      before : l.i ≤ l.place;
    }
