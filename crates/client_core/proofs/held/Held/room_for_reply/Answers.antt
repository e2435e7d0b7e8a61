use Rattle.std.proofs.Common.{refl, sym, subst, ap}
use Rattle.std.specs.Prelude.{Option}
use Rattle.client_core.specs.declared.held.Formed.{Formed}
use Rattle.client_core.specs.Clusters.{IsOf}
use Rattle.client_core.specs.Finding.{id_formed}
use Rattle.client_core.specs.Replying.{HasReplyRoomAt}
use Rattle.client_core.proofs.HeldLaws.{are_set, got, held_same, most_set, set_got, set_ids}
use Rattle.client_core.proofs.held.Held.room_for_reply.Goals as goal

pub room_for_reply-requires : goal.room_for_reply-requires
room_for_reply-requires c =
    let x = c.index_mut-slot.result.now in
    c.requires.read x (got c.args.self.now.slots.items c.args.slot x c.requires.held c.index_mut-slot.ensures.value)

pub returns-in-Ok-clause-shown : goal.returns-in-Ok-clause-shown
returns-in-Ok-clause-shown c = λ v h.
    let x = c.index_mut-slot.result.now in
    held_same c.args.self.now _ c.args.slot x _
    (got c.args.self.now.slots.items c.args.slot x c.requires.held c.index_mut-slot.ensures.value) refl refl
    c.in-Ok.ensures.shown v h

pub returns-in-Err-clause-shown : goal.returns-in-Err-clause-shown
returns-in-Err-clause-shown c = λ v h.
    let x = c.index_mut-slot.result.now in
    held_same c.args.self.now _ c.args.slot x _
    (got c.args.self.now.slots.items c.args.slot x c.requires.held c.index_mut-slot.ensures.value) refl refl
    c.in-Err.ensures.shown v h

pub returns-in-Ok-clause-room : goal.returns-in-Ok-clause-room
returns-in-Ok-clause-room c = λ x e.
    subst (HasReplyRoomAt c.args.read) (sym (set_got c.args.self.now.slots.items c.args.slot _ x c.requires.held e)) c.in-Ok.ensures.room

pub invariant_of-self : goal.invariant_of-self
invariant_of-self c =
    let held = c.args.self.now in
    let x = c.index_mut-slot.result.now in
    record {
      clusters =
          are_set held.cluster held.slots.items c.args.slot x _
          (got held.slots.items c.args.slot x c.requires.held c.index_mut-slot.ensures.value)
          (λ of. subst (λ (o : Option Formed). IsOf held.cluster o) (sym c.room_for_reply.ensures.formed) of) held.clusters;
      most = most_set held.slots.items c.args.slot _ held.most;
      named = set_ids held.ids.items held.slots.items c.args.slot x _
          (got held.slots.items c.args.slot x c.requires.held c.index_mut-slot.ensures.value)
          (ap id_formed c.room_for_reply.ensures.formed) held.named;
    }
