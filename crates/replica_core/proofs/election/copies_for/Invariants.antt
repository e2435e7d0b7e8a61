use Rattle.std.proofs.Common.{◌≡◌, All, map}
use Rattle.std.specs.Prelude.{take}
use Rattle.node_steps.specs.Pendings.{front_of, HasRoomFor}
use Rattle.replica_core.specs.ElectFronts.{front_for}
use Rattle.replica_core.proofs.election.copies_for.Given as goal

abbrev pub invariant-loop-party : goal.invariant-loop-party
invariant-loop-party l =
    record {
      fronts : map front_of l.frames.items ≡ take l.party-index (map (front_for l.front) l.to);
      rooms : All (HasRoomFor l.size) l.frames.items;
    }
