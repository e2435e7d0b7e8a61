use Rattle.std.proofs.Common.{refl}
use Rattle.client_core.proofs.HeldLaws.{got, slot_reads}
use Rattle.client_core.proofs.ReplyingLaws.{same_reads}
use Rattle.client_core.proofs.held.Slot.room_for_reply.Goals as goal

pub returns-in-Ok-clause-shown : goal.returns-in-Ok-clause-shown
returns-in-Ok-clause-shown c = λ s h.
    let x = c.args.self.now in
    let a = c.index_mut-asked.result.now in
    slot_reads x _ s s.reads h refl
    (same_reads x.reads.items s.reads c.args.read a c.make_room.new.self h.reads
    (got x.reads.items c.args.read a c.requires c.index_mut-asked.ensures.value)
    c.in-Ok.ensures.kept)

pub returns-in-Err-clause-shown : goal.returns-in-Err-clause-shown
returns-in-Err-clause-shown c = λ s h.
    let x = c.args.self.now in
    let a = c.index_mut-asked.result.now in
    slot_reads x _ s s.reads h refl
    (same_reads x.reads.items s.reads c.args.read a c.make_room.new.self h.reads
    (got x.reads.items c.args.read a c.requires c.index_mut-asked.ensures.value)
    c.in-Err.ensures.kept)
