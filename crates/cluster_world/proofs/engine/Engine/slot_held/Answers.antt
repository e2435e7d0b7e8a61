use Rattle.std.proofs.Common.{◌∙◌, ap, refl, sym}
use Rattle.std.specs.Prelude.{suc}
use Rattle.cluster_world.specs.Beginning.{id_in}
use Rattle.cluster_world.proofs.AskingLaws.{caller_at}
use Rattle.cluster_world.proofs.BeginLaws.{caller}
use Rattle.cluster_world.proofs.PairLaws.{got}
use Rattle.cluster_world.proofs.PrepareLaws.{held_here, held_nobody, held_nowhere}
use Rattle.cluster_world.proofs.engine.Engine.slot_held.Goals as goal

pub returns-in_default-place_of_client : goal.returns-in_default-place_of_client
returns-in_default-place_of_client g c s st h =
    held_nobody s st c.args.tx c.args.client (c.in_default-place_of_client.ensures.nobody s st h.stands refl)

pub returns-in-Some-slot_of : goal.returns-in-Some-slot_of
returns-in-Some-slot_of g c s st h =
    let old = c.args.self.now in
    let place = c.in-Some-place_of_client.place in
    let node = c.index.result.now in
    let there = c.in-Some-place_of_client.ensures.there in
    let own = caller g.V.Verifier g.S.Signer s old st place h.stands there.0 in
    held_here s st c.args.tx c.args.client place c.in-Some.id own.0
    (ap (λ l. id_in l c.args.tx) (sym h.stands.begun) ∙ ap (λ l. id_in l c.args.tx) (sym c.deref.ensures.value)
    ∙ sym c.id_in.ensures ∙ c.in-Some.is)
    (c.in-Some-place_of_client.ensures.somebody s st h.stands) own.1 c.in-Some-slot_of.slot
    (c.in-Some-slot_of.ensures s (suc place) own.0
    (caller_at g.V.Verifier g.S.Signer s old st place node own.0 h.stands (got old.clients.items place node there.0 c.index.ensures) own.1))

pub returns-in-None : goal.returns-in-None
returns-in-None g c s st h =
    let old = c.args.self.now in
    let place = c.in-Some-place_of_client.place in
    let node = c.index.result.now in
    let there = c.in-Some-place_of_client.ensures.there in
    let own = caller g.V.Verifier g.S.Signer s old st place h.stands there.0 in
    held_nowhere s st c.args.tx c.args.client place c.in-Some.id own.0
    (ap (λ l. id_in l c.args.tx) (sym h.stands.begun) ∙ ap (λ l. id_in l c.args.tx) (sym c.deref.ensures.value)
    ∙ sym c.id_in.ensures ∙ c.in-Some.is)
    (c.in-Some-place_of_client.ensures.somebody s st h.stands) own.1 c.of_call.result
    (c.in-None.ensures s (suc place) own.0
    (caller_at g.V.Verifier g.S.Signer s old st place node own.0 h.stands (got old.clients.items place node there.0 c.index.ensures) own.1))
    c.of_call.ensures
