use Rattle.std.proofs.Common.{rules, ap, ◌∙◌}
use Rattle.fallback_leader.proofs.OrderLaws.{walk_takes, walk_skips}
use Rattle.fallback_leader.proofs.PlaceLaws.{found_some, found_none}
use Rattle.fallback_leader.proofs.election.copies_at.Goals as goal
use Rattle.fallback_leader.proofs.election.copies_at.Goals.{in-Some+in_ok-put_copy-in-Some, in-None}

pub loop-place-preserved : goal.loop-place-preserved
loop-place-preserved c =
    elim c.match-get.branch [
      | in-Some+in_ok-put_copy-in-Some w ↦
          walk_takes c.args.kept.now c.args.places.now c.loop-place.place-index _ w.in-Some.known.now c.loop-place.copies.entries _
          c.loop-place-test.true (search rules) (found_some c.args.kept.now
          _ c.get.result w.in-Some.known _ w.in-Some.is c.get.ensures.lookup.1 c.get.ensures.lookup.3) c.loop-place.invariant
          (ap (λ m. m.entries) w.copies-is ∙ w.in_ok-put_copy-in-Some.ensures.entries)
      | in-None w ↦
          walk_skips c.args.kept.now c.args.places.now c.loop-place.place-index _ c.loop-place.copies.entries _
          c.loop-place-test.true (search rules) (found_none c.args.kept.now _ c.get.result _ w.in-None.is c.get.ensures.lookup.3)
          c.loop-place.invariant (ap (λ m. m.entries) w.copies-is)
    ]
