use Rattle.std.proofs.Common.{arith}
use Rattle.schedule_replay.proofs.Reporting.{all_placed, is_begun_at, is_past, none_placed, one_placed}
use Rattle.schedule_replay.proofs.course.Course.places.Goals as goal

pub overflow_cast-place : goal.overflow_cast-place
overflow_cast-place c = omega (arith, c.len-place-end.ensures.few)

pub loop-place-init : goal.loop-place-init
loop-place-init c = λ r s. none_placed r c.empty_map-places.result.entries c.empty_map-places.ensures.empty

pub loop-place-preserved : goal.loop-place-preserved
loop-place-preserved c = λ r s.
    one_placed r c.loop-place.place c.loop-place.places.entries c.place.new.places.entries
    (is_begun_at c.args.self.now r c.loop-place.place s (omega (arith, c.len-place-end.ensures.begun))) (c.loop-place.invariant r s)
    (c.in_ok-place.ensures r s)

pub returns : goal.returns
returns c = λ r s.
    all_placed r c.loop-place.places.entries c.loop-place.place
    (is_past c.args.self.now r c.loop-place.place s (omega (arith, c.len-place-end.ensures.begun))) (c.loop-place.invariant r s)
