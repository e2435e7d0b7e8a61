use Rattle.std.proofs.Common.{sym, arith}
use Rattle.frame_views.specs.Fitting.{bounds_of, after_tally}
use Rattle.frame_values.specs.Owned.{tally_value}
use Rattle.frame_fitting.specs.Room.{tally_room}
use Rattle.frame_fitting.proofs.RoomWalks.{goes_on, stops, ends}
use Rattle.frame_fitting.proofs.lists.each_tally_room.Goals as goal

pub loop-part-preserved : goal.loop-part-preserved
loop-part-preserved c = goes_on (tally_room (bounds_of c.args.cluster.now)) after_tally tally_value c.args.tallies.now
    _ c.loop-part.part-index c.loop-part.floor c.loop-part.left c.in-Some.after c.part-item.result c.loop-part-test.true c.part-item.is
    (sym c.in-Some.ensures) c.loop-part.invariant

pub returns-in-None : goal.returns-in-None
returns-in-None c = stops (tally_room (bounds_of c.args.cluster.now)) after_tally tally_value c.args.tallies.now _ c.loop-part.part-index
    c.loop-part.floor c.loop-part.left c.part-item.result c.loop-part-test.true c.part-item.is (sym c.in-None.ensures) c.loop-part.invariant

pub returns : goal.returns
returns c = ends (tally_room (bounds_of c.args.cluster.now)) after_tally
    tally_value c.args.tallies.now _ c.loop-part.part-index c.loop-part.floor c.loop-part.left (omega arith) c.loop-part.invariant
