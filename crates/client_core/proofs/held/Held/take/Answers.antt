use Rattle.std.proofs.Common.{refl}
use Rattle.client_core.specs.Clients.{SlotValue}
use Rattle.client_core.specs.Slots.{with_pursuit}
use Rattle.client_core.proofs.HeldLaws.{are_set, got, held_changes, most_set, set_ids}
use Rattle.client_core.proofs.held.Held.take.Goals as goal

pub returns-clause-shown : goal.returns-clause-shown
returns-clause-shown c = λ v after h takes.
    let x = c.index_mut-slot.result.now in
    let at = got c.args.self.now.slots.items c.args.slot x c.requires c.index_mut-slot.ensures.value in
    let p = takes.1 in
    held_changes c.args.self.now _ c.args.slot x _ at refl refl
    (λ (s : SlotValue). with_pursuit s p)
    (λ s shows. c.take.ensures.shown s p shows (takes.4 x at))
    v after h (takes.0, takes.2, takes.3)

pub invariant_of-self : goal.invariant_of-self
invariant_of-self c =
    let held = c.args.self.now in
    let x = c.index_mut-slot.result.now in
    record {
      clusters =
          are_set held.cluster held.slots.items c.args.slot x _
          (got held.slots.items c.args.slot x c.requires c.index_mut-slot.ensures.value)
          (c.take.ensures.cluster held.cluster) held.clusters;
      most = most_set held.slots.items c.args.slot _ held.most;
      named = set_ids held.ids.items held.slots.items c.args.slot x _
          (got held.slots.items c.args.slot x c.requires c.index_mut-slot.ensures.value) c.take.ensures.id held.named;
    }
