use Rattle.std.proofs.Common.{◌≡◌, Option, Some, refl, sym, ap, subst, ◌∙◌}
use Rattle.basil_types.specs.Transaction.{id}
use Rattle.client_core.specs.Finding.{id_formed}
use Rattle.std.proofs.lemmas.Option.{same_Some}
use Rattle.client_recover.specs.Taken.{PursuitValue}
use Rattle.client_core.specs.declared.held.Formed.{Formed}
use Rattle.client_core.specs.declared.held.Slot.{Slot}
use Rattle.client_core.specs.Clients.{SlotValue}
use Rattle.client_core.specs.Showing.{ShowsFormed, ShowsSlot}
use Rattle.client_core.specs.Slots.{with_pursuit}
use Rattle.client_core.proofs.HeldLaws.{slot_pursues}
use Rattle.client_core.proofs.TakingLaws.{pursuit_in}
use Rattle.client_core.proofs.held.Slot.let_go.Goals as goal

pub returns-in-Some-clause-shown : goal.returns-in-Some-clause-shown
returns-in-Some-clause-shown c = λ s h.
    let x = c.args.self.now in
    let new : Slot = record x { formed = Some c.let_go.new.self } in
    let found = pursuit_in c.in-Some.formed s.pursuit (subst (λ (o : Option Formed). ShowsFormed o s.pursuit) c.in-Some.is h.formed) in
    let p = found.0 in
    let same : with_pursuit s p ≡ s =
    ap (λ (o : Option PursuitValue). let t : SlotValue = record s { pursuit = o } in t) (sym found.1) in
    subst (λ (t : SlotValue). ShowsSlot new t) same (slot_pursues x new s p h refl (c.let_go.ensures.shown p found.2))

pub returns-in-Some-clause-none : goal.returns-in-Some-clause-none
returns-in-Some-clause-none c = λ f e. sym (ap (λ (g : Formed). g.held_back) (same_Some _ _ e)) ∙ c.let_go.ensures.none

pub returns-in-Some-clause-cluster : goal.returns-in-Some-clause-cluster
returns-in-Some-clause-cluster c = λ k of f e.
    sym (ap (λ (g : Formed). g.pursuit.cluster) (same_Some _ _ e)) ∙ c.let_go.ensures.cluster ∙ of c.in-Some.formed c.in-Some.is

pub returns-in-Some-clause-id : goal.returns-in-Some-clause-id
returns-in-Some-clause-id c = ap (λ t. Some (id t)) c.let_go.ensures.transaction ∙ sym (ap id_formed c.in-Some.is)
