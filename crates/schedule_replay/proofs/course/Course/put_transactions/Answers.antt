use Rattle.std.proofs.Common.{◌++◌, arith, refl}
use Rattle.schedule_replay.specs.Reports.{tx_lines}
use Rattle.schedule_replay.proofs.Reporting.{all_reported, is_begun_at, is_past, one_reported}
use Rattle.schedule_replay.proofs.course.Course.put_transactions.Goals as goal

pub overflow_cast-place : goal.overflow_cast-place
overflow_cast-place c = omega (arith, c.len-place-end.ensures.few)

pub loop-place-init : goal.loop-place-init
loop-place-init c = λ r t. refl

pub loop-place-preserved : goal.loop-place-preserved
loop-place-preserved c = λ r t.
    one_reported r c.loop-place.place (c.args.out.now.items ++ tx_lines r 0 r.names.begun) c.loop-place.out.items
    c.put_transaction.new.out.items
    (is_begun_at c.args.self.now r c.loop-place.place t.stands (omega (arith, c.len-place-end.ensures.begun))) (c.loop-place.invariant r t)
    (c.in_ok-put_transaction.ensures r t)

pub returns : goal.returns
returns c = λ r t.
    all_reported r c.loop-place.place (c.args.out.now.items ++ tx_lines r 0 r.names.begun) c.loop-place.out.items
    (is_past c.args.self.now r c.loop-place.place t.stands (omega (arith, c.len-place-end.ensures.begun))) (c.loop-place.invariant r t)
