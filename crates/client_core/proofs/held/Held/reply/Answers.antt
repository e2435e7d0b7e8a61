use Rattle.std.proofs.Common.{refl, sym, subst, ap}
use Rattle.std.specs.Prelude.{Option}
use Rattle.client_core.specs.declared.held.Formed.{Formed}
use Rattle.client_core.specs.Clusters.{IsOf}
use Rattle.client_core.specs.Finding.{id_formed}
use Rattle.client_core.specs.Clients.{SlotValue}
use Rattle.client_core.specs.Slots.{put_read}
use Rattle.client_core.proofs.HeldLaws.{are_set, got, held_changes, most_set, set_ids}
use Rattle.client_core.proofs.held.Held.reply.Goals as goal

pub reply-requires : goal.reply-requires
reply-requires c =
    let x = c.index_mut-slot.result.now in
    c.requires.room x (got c.args.self.now.slots.items c.args.slot x c.requires.held c.index_mut-slot.ensures.value)

pub returns-clause-shown : goal.returns-clause-shown
returns-clause-shown c = λ v after h replies.
    let x = c.index_mut-slot.result.now in
    let at = got c.args.self.now.slots.items c.args.slot x c.requires.held c.index_mut-slot.ensures.value in
    let r = replies.1 in
    held_changes c.args.self.now _ c.args.slot x _ at refl refl
    (λ (s : SlotValue). record s { reads = put_read r s.reads })
    (λ s shows. c.reply.ensures.shown s r shows (replies.4 x at))
    v after h (replies.0, replies.2, replies.3)

pub invariant_of-self : goal.invariant_of-self
invariant_of-self c =
    let held = c.args.self.now in
    let x = c.index_mut-slot.result.now in
    record {
      clusters =
          are_set held.cluster held.slots.items c.args.slot x _
          (got held.slots.items c.args.slot x c.requires.held c.index_mut-slot.ensures.value)
          (λ of. subst (λ (o : Option Formed). IsOf held.cluster o) (sym c.reply.ensures.formed) of) held.clusters;
      most = most_set held.slots.items c.args.slot _ held.most;
      named = set_ids held.ids.items held.slots.items c.args.slot x _
          (got held.slots.items c.args.slot x c.requires.held c.index_mut-slot.ensures.value) (ap id_formed c.reply.ensures.formed)
          held.named;
    }
