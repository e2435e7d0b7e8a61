use Rattle.std.specs.Prelude.{option_copied}
use Rattle.serial_audit.proofs.Ordering.{put_next}
use Rattle.serial_audit.proofs.ordered.versions_under.Goals as goal

pub loop-t-preserved : goal.loop-t-preserved
loop-t-preserved c =
    put_next (option_copied c.args.bound) _ _ _ c.args.list.now c.loop-t.t-index c.t-item.result c.loop-t-test.true c.t-item.is
    c.in_ok-put_under.ensures c.loop-t.invariant
