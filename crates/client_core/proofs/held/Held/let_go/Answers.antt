use Rattle.std.proofs.Common.{◌≡◌, false, refl, sym, subst}
use Rattle.std.specs.Option.{ForSome}
use Rattle.client_core.specs.declared.held.Formed.{Formed}
use Rattle.client_core.specs.declared.held.Slot.{Slot}
use Rattle.client_core.proofs.HeldLaws.{are_set, got, held_same, most_set, set_got, set_ids}
use Rattle.client_core.proofs.held.Held.let_go.Goals as goal

pub returns-clause-shown : goal.returns-clause-shown
returns-clause-shown c = λ v h.
    let held = c.args.self.now in
    let x = c.index_mut-slot.result.now in
    held_same held _ c.args.slot x _ (got held.slots.items c.args.slot x c.requires c.index_mut-slot.ensures.value) refl refl
    c.let_go.ensures.shown v h

pub returns-clause-none : goal.returns-clause-none
returns-clause-none c = λ x e.
    subst (λ (y : Slot). ForSome y.formed (λ (f : Formed). f.held_back ≡ false))
    (sym (set_got c.args.self.now.slots.items c.args.slot _ x c.requires e)) c.let_go.ensures.none

pub invariant_of-self : goal.invariant_of-self
invariant_of-self c =
    let held = c.args.self.now in
    let x = c.index_mut-slot.result.now in
    record {
      clusters =
          are_set held.cluster held.slots.items c.args.slot x _
          (got held.slots.items c.args.slot x c.requires c.index_mut-slot.ensures.value)
          (c.let_go.ensures.cluster held.cluster) held.clusters;
      most = most_set held.slots.items c.args.slot _ held.most;
      named = set_ids held.ids.items held.slots.items c.args.slot x _
          (got held.slots.items c.args.slot x c.requires c.index_mut-slot.ensures.value) c.let_go.ensures.id held.named;
    }
