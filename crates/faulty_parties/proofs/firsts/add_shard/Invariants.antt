use Rattle.std.proofs.Common.{◌≡◌, ◌++◌, All, map}
use Rattle.std.specs.List.{range_with_len}
use Rattle.node_steps.specs.Pendings.{HasRoomFor, front_of}
use Rattle.faulty_parties.specs.Fronts.{front_to}
use Rattle.faulty_parties.proofs.firsts.add_shard.Given as goal

abbrev pub invariant-loop-index : goal.invariant-loop-index
invariant-loop-index l =
    record {
      fronts : map front_of l.frames.items
          ≡ map front_of l.initial.frames.items ++ map (front_to l.front.bytes.now l.shard) (range_with_len 0 l.index);
      rooms : All (HasRoomFor l.front.size) l.frames.items;
    }
