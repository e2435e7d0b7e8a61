use Rattle.std.proofs.Common.{◌≡◌, All, map}
use Rattle.std.specs.Prelude.{take}
use Rattle.node_steps.specs.Pendings.{front_of, HasRoomFor}
use Rattle.replica_core.specs.Releases.{release_front}
use Rattle.replica_core.proofs.writeback.release_frames.Given as goal

abbrev pub invariant-loop-asker : goal.invariant-loop-asker
invariant-loop-asker l =
    record {
      fronts : map front_of l.frames.items ≡ take l.asker-index (map (release_front l.seat l.id l.decision) l.askers);
      rooms : All (HasRoomFor l.size) l.frames.items;
    }
