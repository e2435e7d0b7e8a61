use Rattle.std.proofs.Common.{◌∙◌, ℕ, List, Some, refl, ap, false}
use Rattle.std.specs.Prelude.{slice_set}
use Rattle.client_recover.specs.Owned.{unstarted}
use Rattle.client_core.specs.Works.{pursues}
use Rattle.client_core.proofs.HeldLaws.{are_set, got, held_changes, most_set, placed_ids, slot_pursues, some_of}
use Rattle.client_core.proofs.held.Held.pursue.Goals as goal

pub returns-clause-shown : goal.returns-clause-shown
returns-clause-shown c = λ v after h changes.
    let held = c.args.self.now in
    let x = c.index_mut-slot.result.now in
    held_changes held _ c.args.slot x _ (got held.slots.items c.args.slot x c.requires.held c.index_mut-slot.ensures.value)
    refl refl (pursues c.args.formed c.args.signature)
    (λ s shows. slot_pursues x _ s (unstarted c.args.formed c.args.signature) shows refl
    (record { stands = c.new-pursuit.ensures.stands false; second = refl }))
    v after h changes

pub invariant_of-self : goal.invariant_of-self
invariant_of-self c =
    let held = c.args.self.now in
    let x = c.index_mut-slot.result.now in
    record {
      clusters =
          are_set held.cluster held.slots.items c.args.slot x _
          (got held.slots.items c.args.slot x c.requires.held c.index_mut-slot.ensures.value)
          (λ of. some_of held.cluster _ c.new-pursuit.ensures.cluster) held.clusters;
      most = most_set held.slots.items c.args.slot _ held.most;
      named =
          ap (λ (l : List ℕ). slice_set held.ids.items c.args.slot (Some l)) c.id.ensures
          ∙ placed_ids held.ids.items held.slots.items c.args.slot _ held.named;
    }
