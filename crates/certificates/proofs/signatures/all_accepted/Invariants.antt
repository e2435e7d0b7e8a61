use Rattle.std.proofs.Common.{◌≡◌, ◌+◌, length, not}
use Rattle.frame_views.specs.Walks.{signed_left}
use Rattle.certificates.specs.Accepted.{accepts, first_refused}
use Rattle.basil_types.proofs.Walks.{place_from}
use Rattle.certificates.proofs.signatures.all_accepted.Given as goal

abbrev pub invariant-loop-item : goal.invariant-loop-item
invariant-loop-item g l = record {
  can : (goal.iterator-loop-item g).can_next l.item-iterator;
  ends : (goal.iterator-loop-item g).is_finite l.item-iterator;
  counted : l.place + length (signed_left l.item-iterator) ≡ length (signed_left l.fn.signed);
  first : place_from (λ s. not (accepts (g.V.Verifier.accepted l.keys) s)) l.place (signed_left l.item-iterator)
      ≡ first_refused (g.V.Verifier.accepted l.keys) (signed_left l.fn.signed);
}
