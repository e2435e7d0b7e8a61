use Rattle.std.proofs.Common.{◌≤◌}
use Rattle.basil_types.specs.Lists.{items_at}
use Rattle.basil_types.proofs.ListLaws.{GoesOn}
use Rattle.frame_views.specs.Fitting.{after_word, widest}
use Rattle.frame_views.specs.Grammar.{word_at}
use Rattle.frame_views.proofs.items.words.ElectsView.at.Given as goal

abbrev pub invariant-loop-i : goal.invariant-loop-i
invariant-loop-i l =
    record {
      reads : GoesOn (word_at widest) after_word l.self.count l.i l.floor l.rest
          (items_at (word_at widest) after_word l.self.count 0 l.self.bytes.now);
      before : l.i ≤ l.place;
    }
