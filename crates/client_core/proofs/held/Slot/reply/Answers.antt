use Rattle.std.proofs.Common.{◌∙◌, refl, ap}
use Rattle.client_core.specs.Kept.{KeptRead}
use Rattle.client_core.specs.Slots.{put_read}
use Rattle.client_core.proofs.HeldLaws.{got, slot_reads}
use Rattle.client_core.proofs.ReplyingLaws.{replied_reads}
use Rattle.client_core.proofs.held.Slot.reply.Goals as goal

pub returns-clause-shown : goal.returns-clause-shown
returns-clause-shown c = λ s r h tells.
    let x = c.args.self.now in
    let a = c.index_mut-asked.result.now in
    let at = got x.reads.items c.args.read a c.requires.0 c.index_mut-asked.ensures.value in
    let t = tells a at in
    slot_reads x _ s (put_read r s.reads) h refl
    (replied_reads x.reads.items s.reads c.args.read a c.add.new.self r h.reads
    (ap (λ (k : KeptRead). k.key) c.add.ensures) (c.add.ensures ∙ t.0) t.1)
