use Rattle.std.proofs.Common.{◌≡◌, ◌+◌, ◌++◌, All, length, map}
use Rattle.node_steps.specs.Pendings.{sealed, HasRoomFor}
use Rattle.node_steps.proofs.pending.send.Given as goal

abbrev pub invariant-loop-unsigned : goal.invariant-loop-unsigned
invariant-loop-unsigned l =
    record {
      told : l.out.messages.items ++ map (sealed l.signature) l.unsigned-iterator.rest.items ≡ l.fn.out.messages.items ++ map
          (sealed l.signature) l.fn.frames.items;
      room : l.out.messages.room + length l.fn.frames.items ≡ l.fn.out.messages.room + length l.unsigned-iterator.rest.items;
      rooms : All (HasRoomFor (length l.signature)) l.unsigned-iterator.rest.items;
      signed : l.out.signed ≡ l.fn.out.signed;
    }
