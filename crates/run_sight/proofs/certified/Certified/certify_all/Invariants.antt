use Rattle.frame_views.specs.Carried.{pairs_in}
use Rattle.frame_views.specs.CarriedWalks.{pairs_left}
use Rattle.frame_views.specs.Shown.{message_of}
use Rattle.run_sight.proofs.PairLaws.{Walked}
use Rattle.run_sight.proofs.certified.Certified.certify_all.Given as goal

abbrev pub invariant-loop-pair : goal.invariant-loop-pair
invariant-loop-pair g l = record {
  can : (goal.iterator-loop-pair g).can_next l.pair-iterator;
  ends : (goal.iterator-loop-pair g).is_finite l.pair-iterator;
  walked : Walked (g.V.Verifier.accepted l.keys) l.cluster (pairs_in (message_of l.fn.m)) (pairs_left l.pair-iterator) l.fn.self l.self;
}
