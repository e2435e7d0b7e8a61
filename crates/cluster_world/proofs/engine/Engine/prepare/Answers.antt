use Rattle.std.proofs.Common.{◌∙◌, ap, sym}
use Rattle.cluster_world.specs.Beginning.{own_slot}
use Rattle.cluster_world.proofs.BeginLaws.{comes_as, own_here}
use Rattle.cluster_world.proofs.StepLaws.{prepares_as, prepares_unheld}
use Rattle.cluster_world.proofs.engine.Engine.prepare.Goals as goal

pub returns-in-Some : goal.returns-in-Some
returns-in-Some g c = λ s st h.
    let client = c.in-Some.client in
    let slot = c.in-Some.slot in
    let own =
    own_here st.begun c.args.tx client slot
    (ap (λ l. own_slot l c.args.tx) (sym h.stands.begun) ∙ ap (λ l. own_slot l c.args.tx) (sym c.deref.ensures.value)
    ∙ sym c.own_slot.ensures ∙ c.in-Some.is) in
    comes_as g.V.Verifier g.S.Signer s st _ _ _ _ (prepares_as s st c.args.tx client slot own)
    (c.prepare_own.ensures s st own.b h own.at own.client)

pub returns-in-None : goal.returns-in-None
returns-in-None g c = λ s st h.
    prepares_unheld g.V.Verifier g.S.Signer s st c.args.tx _ _
    (ap (λ l. own_slot l c.args.tx) (sym h.stands.begun) ∙ ap (λ l. own_slot l c.args.tx) (sym c.deref.ensures.value)
    ∙ sym c.own_slot.ensures ∙ c.in-None.is)
    (λ b. c.prepare_faulty.ensures.own s st b h)
    (c.prepare_faulty.ensures.unbegun s st h)
