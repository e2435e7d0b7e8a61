use Rattle.std.proofs.Common.{rules, ◌≤◌, arith}
use Rattle.schedule_replay.proofs.Counting.{counted_on}
use Rattle.schedule_replay.proofs.course.Course.total_of.Goals as goal

pub loop-place-preserved : goal.loop-place-preserved
loop-place-preserved c =
    let one : c.from-total.result ≤ 1 = search rules in
    record {
      few = omega (arith, one, c.loop-place.invariant.few);
      counted = λ r s.
          counted_on c.args.fate r c.loop-place.place c.loop-place.total c.from-total.result (c.loop-place.invariant.counted r s)
          (search (rules, c.is_same_fate.ensures, c.fate_of.ensures r s, c.from-total.ensures));
    }
