use Rattle.std.proofs.Common.{refl}
use Rattle.client_core.specs.Works.{starts}
use Rattle.client_core.proofs.HeldLaws.{are_set, got, held_changes, most_set, set_ids, slot_starts, started_keeps, started_of}
use Rattle.client_core.proofs.held.Held.start.Goals as goal

pub returns-clause-shown : goal.returns-clause-shown
returns-clause-shown c = λ v after h changes.
    let held = c.args.self.now in
    let x = c.index_mut-slot.result.now in
    held_changes held _ c.args.slot x _ (got held.slots.items c.args.slot x c.requires c.index_mut-slot.ensures.value)
    refl refl starts
    (λ s shows. slot_starts x _ s shows c.start.ensures)
    v after h changes

pub invariant_of-self : goal.invariant_of-self
invariant_of-self c =
    let held = c.args.self.now in
    let x = c.index_mut-slot.result.now in
    record {
      clusters =
          are_set held.cluster held.slots.items c.args.slot x _
          (got held.slots.items c.args.slot x c.requires c.index_mut-slot.ensures.value)
          (started_of held.cluster x _ c.start.ensures) held.clusters;
      most = most_set held.slots.items c.args.slot _ held.most;
      named = set_ids held.ids.items held.slots.items c.args.slot x _
          (got held.slots.items c.args.slot x c.requires c.index_mut-slot.ensures.value) (started_keeps x _ c.start.ensures) held.named;
    }
