use Rattle.std.proofs.Common.{◌≡◌, All, take, map}
use Rattle.basil_types.specs.Shown.{transaction_of}
use Rattle.node_steps.specs.Pendings.{HasRoomFor, front_of}
use Rattle.txn_meta.specs.Places.{involved}
use Rattle.faulty_parties.specs.Fronts.{fronts_of}
use Rattle.faulty_parties.proofs.firsts.frames_in.Given as goal

abbrev pub invariant-loop-place : goal.invariant-loop-place
invariant-loop-place l =
    record {
      fronts : map front_of l.frames.items
          ≡ fronts_of l.cluster l.front.bytes.now (take l.place (involved l.cluster (transaction_of l.fn.t)));
      rooms : All (HasRoomFor l.front.size) l.frames.items;
    }
