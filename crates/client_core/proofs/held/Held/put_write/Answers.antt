use Rattle.std.proofs.Common.{◌∙◌, refl, sym, ap}
use Rattle.client_core.specs.Clients.{SlotValue}
use Rattle.client_core.specs.Slots.{put_write}
use Rattle.client_core.specs.Works.{writes}
use Rattle.client_core.proofs.HeldLaws.{are_set, got, held_changes, held_same, most_set, set_ids, slot_writes}
use Rattle.client_core.proofs.held.Held.put_write.Goals as goal

pub returns-in-Ok-clause-kept : goal.returns-in-Ok-clause-kept
returns-in-Ok-clause-kept c = λ v after h changes.
    let held = c.args.self.now in
    let x = c.index_mut-slot.result.now in
    held_changes held _ c.args.slot x _ (got held.slots.items c.args.slot x c.requires c.index_mut-slot.ensures.value)
    refl refl (writes c.args.write)
    (λ s shows. slot_writes x _ s shows refl (put_write c.args.write s.writes)
    (c.in-Ok.ensures.put ∙ ap (put_write c.args.write) (sym (ap (λ (t : SlotValue). t.writes) shows.value))))
    v after h changes

pub returns-in-Err-clause-as_before : goal.returns-in-Err-clause-as_before
returns-in-Err-clause-as_before c = λ v h.
    let held = c.args.self.now in
    let x = c.index_mut-slot.result.now in
    held_same held _ c.args.slot x _ (got held.slots.items c.args.slot x c.requires c.index_mut-slot.ensures.value)
    refl refl
    (λ s shows. slot_writes x _ s shows refl s.writes
    (c.in-Err.ensures.as_before ∙ sym (ap (λ (t : SlotValue). t.writes) shows.value))) v h

pub invariant_of-self : goal.invariant_of-self
invariant_of-self c =
    let held = c.args.self.now in
    let x = c.index_mut-slot.result.now in
    record {
      clusters =
          are_set held.cluster held.slots.items c.args.slot x _
          (got held.slots.items c.args.slot x c.requires c.index_mut-slot.ensures.value) (λ of. of) held.clusters;
      most = most_set held.slots.items c.args.slot _ held.most;
      named = set_ids held.ids.items held.slots.items c.args.slot x _
          (got held.slots.items c.args.slot x c.requires c.index_mut-slot.ensures.value) refl held.named;
    }
