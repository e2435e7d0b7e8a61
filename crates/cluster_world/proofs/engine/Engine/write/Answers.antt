use Rattle.std.proofs.Common.{◌∙◌, ap, sym}
use Rattle.cluster_world.specs.Beginning.{own_slot, written_value}
use Rattle.cluster_world.proofs.BeginLaws.{comes_as, own_here, writes_as}
use Rattle.cluster_world.proofs.engine.Engine.write.Goals as goal

pub returns-in-Some : goal.returns-in-Some
returns-in-Some g c s st h =
    let client = c.in-Some.client in
    let slot = c.in-Some.slot in
    let own =
    own_here st.begun c.args.tx client slot
    (ap (λ l. own_slot l c.args.tx) (sym h.stands.begun) ∙ ap (λ l. own_slot l c.args.tx) (sym c.deref.ensures.value)
    ∙ sym c.own_slot.ensures ∙ c.in-Some.is) in
    comes_as g.V.Verifier g.S.Signer s st _ _ _ _ (writes_as s st c.args.tx client slot (written_value c.args.written) own)
    (c.write_own.ensures s st h)

pub returns-in-None : goal.returns-in-None
returns-in-None g c s st h =
    c.write_faulty.ensures s st h
    (ap (λ l. own_slot l c.args.tx) (sym c.deref.ensures.value) ∙ sym c.own_slot.ensures ∙ c.in-None.is)
