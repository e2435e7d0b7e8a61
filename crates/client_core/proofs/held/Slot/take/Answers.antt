use Rattle.std.proofs.Common.{refl, sym, ap, subst, ◌∙◌, Some}
use Rattle.basil_types.specs.Transaction.{id}
use Rattle.client_core.specs.Finding.{id_formed}
use Rattle.std.proofs.lemmas.Option.{same_Some}
use Rattle.client_core.specs.declared.held.Formed.{Formed}
use Rattle.client_core.specs.Taking.{WillStand}
use Rattle.client_core.proofs.HeldLaws.{slot_pursues}
use Rattle.client_core.proofs.held.Slot.take.Goals as goal

pub returns-in-Some-clause-shown : goal.returns-in-Some-clause-shown
returns-in-Some-clause-shown c = λ s p shows stands.
    slot_pursues c.args.self.now _ s p shows refl (c.take.ensures.shown p (subst (WillStand c.args.starts p) c.in-Some.is stands))

pub returns-in-None-clause-shown : goal.returns-in-None-clause-shown
returns-in-None-clause-shown c = λ s p shows stands. absurd (subst (WillStand c.args.starts p) c.in-None.is stands)

pub returns-in-Some-clause-cluster : goal.returns-in-Some-clause-cluster
returns-in-Some-clause-cluster c = λ k of f e.
    sym (ap (λ (g : Formed). g.pursuit.cluster) (same_Some _ _ e)) ∙ c.take.ensures.cluster ∙ of c.in-Some.formed c.in-Some.is

pub returns-in-Some-clause-id : goal.returns-in-Some-clause-id
returns-in-Some-clause-id c = ap (λ t. Some (id t)) c.take.ensures.transaction ∙ sym (ap id_formed c.in-Some.is)
