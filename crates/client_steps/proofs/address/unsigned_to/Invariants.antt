use Rattle.std.proofs.Common.{◌≡◌, All, take, map}
use Rattle.node_steps.specs.Pendings.{front_of, HasRoomFor}
use Rattle.client_steps.specs.Addressing.{fronted}
use Rattle.client_steps.proofs.address.unsigned_to.Given as goal

abbrev pub invariant-loop-to : goal.invariant-loop-to
invariant-loop-to l =
    record {
      fronts : map front_of l.frames.items ≡ map (fronted l.fn.frame) (take l.to-index l.parties);
      rooms : All (HasRoomFor l.size) l.frames.items;
    }
