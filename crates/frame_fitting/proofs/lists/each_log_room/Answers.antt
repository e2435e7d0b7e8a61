use Rattle.std.proofs.Common.{sym, arith}
use Rattle.frame_views.specs.Fitting.{bounds_of, after_log}
use Rattle.frame_values.specs.Owned.{log_value}
use Rattle.frame_fitting.specs.Room.{log_room}
use Rattle.frame_fitting.proofs.RoomWalks.{goes_on, stops, ends}
use Rattle.frame_fitting.proofs.lists.each_log_room.Goals as goal

pub loop-part-preserved : goal.loop-part-preserved
loop-part-preserved c = goes_on (log_room (bounds_of c.args.cluster.now) c.args.decided) after_log log_value c.args.logs.now
    _ c.loop-part.part-index c.loop-part.floor c.loop-part.left c.in-Some.after c.part-item.result c.loop-part-test.true c.part-item.is
    (sym c.in-Some.ensures) c.loop-part.invariant

pub returns-in-None : goal.returns-in-None
returns-in-None c =
    stops (log_room (bounds_of c.args.cluster.now) c.args.decided) after_log log_value c.args.logs.now _ c.loop-part.part-index
    c.loop-part.floor c.loop-part.left c.part-item.result c.loop-part-test.true c.part-item.is (sym c.in-None.ensures) c.loop-part.invariant

pub returns : goal.returns
returns c = ends (log_room (bounds_of c.args.cluster.now) c.args.decided)
    after_log log_value c.args.logs.now _ c.loop-part.part-index c.loop-part.floor c.loop-part.left (omega arith) c.loop-part.invariant
