use Rattle.std.proofs.Common.{◌≡◌, ◌++◌, List}
use Rattle.frame_views.specs.Signed.{SignedBy}
use Rattle.frame_views.specs.Walks.{signed_left}
use Rattle.premise_watch.specs.Looks.{Passes}
use Rattle.premise_watch.specs.Marks.{as_marks}
use Rattle.premise_watch.proofs.watch.Watch.refuse_forgeries.Given as goal

abbrev pub invariant-loop-item : goal.invariant-loop-item
invariant-loop-item g l = record {
  can : (goal.iterator-loop-item g).can_next l.item-iterator;
  ends : (goal.iterator-loop-item g).is_finite l.item-iterator;
  split : (done : List SignedBy) × (signed_left l.fn.signed ≡ done ++ signed_left l.item-iterator) ×
      Passes (g.V.Verifier.accepted l.keys) l.faulty l.self (as_marks done) l.self;
}
