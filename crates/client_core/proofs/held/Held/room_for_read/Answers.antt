use Rattle.std.proofs.Common.{rules, ◌<◌, List, refl, sym, subst, vec_len, vec_capacity}
use Rattle.client_core.specs.declared.asking.Asking.{Asking}
use Rattle.client_core.specs.Showing.{KeepsReads}
use Rattle.client_core.specs.Works.{HasReadRoom}
use Rattle.client_core.proofs.HeldLaws.{are_set, got, held_same, most_set, set_got, set_ids, slot_reads}
use Rattle.client_core.proofs.held.Held.room_for_read.Goals as goal

pub returns-in_err-reserve-clause-shown : goal.returns-in_err-reserve-clause-shown
returns-in_err-reserve-clause-shown c = λ v h.
    let held = c.args.self.now in
    let x = c.index_mut-slot.result.now in
    held_same held _ c.args.slot x _ (got held.slots.items c.args.slot x c.requires c.index_mut-slot.ensures.value)
    refl refl
    (λ s shows. slot_reads x _ s s.reads shows refl
    (subst (λ (l : List Asking). KeepsReads l s.reads) (sym c.in_err-reserve.ensures.items) shows.reads)) v h

pub returns-clause-shown : goal.returns-clause-shown
returns-clause-shown c = λ v h.
    let held = c.args.self.now in
    let x = c.index_mut-slot.result.now in
    held_same held _ c.args.slot x _ (got held.slots.items c.args.slot x c.requires c.index_mut-slot.ensures.value)
    refl refl
    (λ s shows. slot_reads x _ s s.reads shows refl
    (subst (λ (l : List Asking). KeepsReads l s.reads) (sym c.in_ok-reserve.ensures.items) shows.reads)) v h

pub returns-clause-room : goal.returns-clause-room
returns-clause-room c = λ x e.
    let room : vec_len c.reserve.new.self < vec_capacity c.reserve.new.self = search rules in
    subst HasReadRoom (sym (set_got c.args.self.now.slots.items c.args.slot _ x c.requires e)) room

pub invariant_of-self : goal.invariant_of-self
invariant_of-self c =
    let held = c.args.self.now in
    let x = c.index_mut-slot.result.now in
    record {
      clusters =
          are_set held.cluster held.slots.items c.args.slot x _
          (got held.slots.items c.args.slot x c.requires c.index_mut-slot.ensures.value) (λ of. of) held.clusters;
      most = most_set held.slots.items c.args.slot _ held.most;
      named = set_ids held.ids.items held.slots.items c.args.slot x _
          (got held.slots.items c.args.slot x c.requires c.index_mut-slot.ensures.value) refl held.named;
    }
