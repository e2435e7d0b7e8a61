use Rattle.std.proofs.Common.{◌∙◌, Some, refl, sym, ap}
use Rattle.std.proofs.lemmas.Option.{same_Some}
use Rattle.client_core.specs.declared.held.Formed.{Formed}
use Rattle.frame_views.specs.Shown.{message_of}
use Rattle.client_core.specs.declared.held.Slot.{Slot}
use Rattle.client_core.specs.Finding.{id_formed}
use Rattle.client_core.specs.Seats.{self_at}
use Rattle.basil_types.specs.Transaction.{id}
use Rattle.client_core.proofs.HeldLaws.{are_set, got, most_set, set_ids}
use Rattle.client_core.proofs.ReadingLaws.{shown_at}
use Rattle.client_core.proofs.TakingLaws.{not_formed, taken_planned, taken_shows}
use Rattle.client_core.proofs.taking.plan_take.Goals as goal

pub plan_formed-requires-clause-cluster : goal.plan_formed-requires-clause-cluster
plan_formed-requires-clause-cluster g c =
    let old = c.args.held.now in
    let x = c.index_mut-place.result.now in
    old.clusters c.args.slot x (got old.slots.items c.args.slot x c.requires.held c.index_mut-place.ensures.value)
    c.in-Some.formed c.in-Some.is
    ∙ c.requires.cluster

pub returns-in-Some-clause-answer : goal.returns-in-Some-clause-answer
returns-in-Some-clause-answer g c = λ signing v s h at.
    let me = self_at c.args.seat.now (g.V.Verifier.accepted c.args.keys.now) signing in
    let old = c.args.held.now in
    let i = c.args.slot in
    let x = c.index_mut-place.result.now in
    let f = c.plan_formed.new.formed in
    let changed : Slot = record x { formed = Some f } in
    taken_planned old _ i x changed c.in-Some.formed f
    (got old.slots.items i x c.requires.held c.index_mut-place.ensures.value) c.in-Some.is refl refl refl
    c.plan_formed.ensures.shown signing me v s (message_of c.args.m.now) c.plan_formed.result c.plan_formed.ensures.planned h at

pub returns-in-Some-clause-shown : goal.returns-in-Some-clause-shown
returns-in-Some-clause-shown g c = λ v h.
    let old = c.args.held.now in
    let i = c.args.slot in
    let x = c.index_mut-place.result.now in
    let f = c.plan_formed.new.formed in
    let changed : Slot = record x { formed = Some f } in
    taken_shows old _ i x changed c.in-Some.formed f
    (got old.slots.items i x c.requires.held c.index_mut-place.ensures.value) c.in-Some.is refl refl refl
    c.plan_formed.ensures.shown v h

pub returns-in-None-clause-answer : goal.returns-in-None-clause-answer
returns-in-None-clause-answer g c = λ signing v s h at wanting.
    let me = self_at c.args.seat.now (g.V.Verifier.accepted c.args.keys.now) signing in
    let held = c.args.held.now in
    let i = c.args.slot in
    let x = c.index_mut-place.result.now in
    not_formed me v (message_of c.args.m.now) i x s
    (shown_at held v i x s h (got held.slots.items i x c.requires.held c.index_mut-place.ensures.value) at) c.in-None.is

pub invariant_of-held : goal.invariant_of-held
invariant_of-held g c =
    let old = c.args.held.now in
    let x = c.index_mut-place.result.now in
    record {
      clusters =
          are_set old.cluster old.slots.items c.args.slot x _
          (got old.slots.items c.args.slot x c.requires.held c.index_mut-place.ensures.value)
          (λ of f e. sym (ap (λ (g : Formed). g.pursuit.cluster) (same_Some _ _ e)) ∙ c.plan_formed.ensures.cluster
          ∙ of c.in-Some.formed c.in-Some.is) old.clusters;
      most = most_set old.slots.items c.args.slot _ old.most;
      named =
          set_ids old.ids.items old.slots.items c.args.slot x _
          (got old.slots.items c.args.slot x c.requires.held c.index_mut-place.ensures.value)
          (ap (λ t. Some (id t)) c.plan_formed.ensures.transaction ∙ sym (ap id_formed c.in-Some.is)) old.named;
    }

pub invariant_of-held-in-None-clause-named : goal.invariant_of-held-in-None-clause-named
invariant_of-held-in-None-clause-named g c =
    let old = c.args.held.now in
    let x = c.index_mut-place.result.now in
    set_ids old.ids.items old.slots.items c.args.slot x _
    (got old.slots.items c.args.slot x c.requires.held c.index_mut-place.ensures.value) refl old.named

pub invariant_of-held-in-None-clause-most : goal.invariant_of-held-in-None-clause-most
invariant_of-held-in-None-clause-most g c =
    let old = c.args.held.now in most_set old.slots.items c.args.slot _ old.most
