use Rattle.std.proofs.Common.{◌≡◌, Some, refl, subst, sym}
use Rattle.std.specs.Prelude.{slice_get}
use Rattle.client_core.specs.Keeping.{told_state}
use Rattle.cluster_world.proofs.PairLaws.{got}
use Rattle.cluster_world.proofs.TellingLaws.{value_none, value_told}
use Rattle.cluster_world.proofs.engine.Engine.value.Goals as goal

pub returns-in-Some-place_of_client : goal.returns-in-Some-place_of_client
returns-in-Some-place_of_client g c = λ s st h.
    value_told g.V.Verifier g.S.Signer s c.args.self.now st c.args.tx c.args.key.now c.in-Some.begun.now c.in-Some-slot.slot
    c.client.result (subst (λ l. slice_get l c.args.tx ≡ Some c.in-Some.begun.now) c.deref.ensures.value
    (got c.deref.result.now c.args.tx c.in-Some.begun.now c.in-Some.ensures.lookup.3.0 c.in-Some.ensures.lookup.1))
    (sym c.in-Some-slot.ensures)
    c.client.ensures.exact h c.in-Some-place_of_client.place c.index.result.now (told_state c.value.result)
    c.in-Some-place_of_client.ensures.there.1 c.in-Some-place_of_client.ensures.there.0
    (c.in-Some-place_of_client.ensures.somebody s st h.stands) c.index.ensures (c.value.ensures s)

pub returns-in-None : goal.returns-in-None
returns-in-None g c = λ s st h.
    value_none g.V.Verifier g.S.Signer s c.args.self.now st c.args.tx c.args.key.now c.in-Some.begun.now c.in-Some-slot.slot
    c.client.result (subst (λ l. slice_get l c.args.tx ≡ Some c.in-Some.begun.now) c.deref.ensures.value
    (got c.deref.result.now c.args.tx c.in-Some.begun.now c.in-Some.ensures.lookup.3.0 c.in-Some.ensures.lookup.1))
    (sym c.in-Some-slot.ensures)
    c.client.ensures.exact h (c.in-None.ensures.nobody s st h.stands refl)
