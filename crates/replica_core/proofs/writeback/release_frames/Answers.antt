use Rattle.std.proofs.Common.{All, sym, subst}
use Rattle.std.proofs.lemmas.List.Elements.{All-push}
use Rattle.node_steps.specs.Pendings.{HasRoomFor}
use Rattle.replica_core.specs.Releases.{release_front}
use Rattle.replica_core.proofs.Fronting.{next_front}
use Rattle.replica_core.proofs.writeback.release_frames.Goals as goal

pub loop-asker-preserved : goal.loop-asker-preserved
loop-asker-preserved c =
    record {
      fronts = next_front (release_front c.args.seat.now c.args.id.now c.args.decision) c.args.askers.now c.loop-asker.asker-index _
          c.loop-asker.frames.items c.push.new.self.items c.in_ok-unsigned.unsigned c.in_ok-push.ensures.items
          c.in_ok-unsigned.ensures.front c.loop-asker-test.true c.loop-asker.invariant.fronts;
      rooms = subst (All (HasRoomFor c.args.size)) (sym c.in_ok-push.ensures.items)
          (All-push (HasRoomFor c.args.size) c.loop-asker.frames.items c.in_ok-unsigned.unsigned c.loop-asker.invariant.rooms
          c.in_ok-unsigned.ensures.room);
    }
