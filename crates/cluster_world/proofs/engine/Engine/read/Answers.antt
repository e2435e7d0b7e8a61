use Rattle.std.proofs.Common.{◌∙◌, ap, refl, sym}
use Rattle.client_core.specs.Calls.{call_read}
use Rattle.cluster_run.specs.Parts.{client_self}
use Rattle.cluster_world.specs.Beginning.{own_slot}
use Rattle.cluster_world.proofs.BeginLaws.{comes_as, comes_same, own_here, reads_as, reads_none}
use Rattle.cluster_world.proofs.engine.Engine.read.Goals as goal

pub returns-in-Some : goal.returns-in-Some
returns-in-Some g c s st h =
    let client = c.in-Some.client in
    let slot = c.in-Some.slot in
    let own =
    own_here st.begun c.args.tx client slot
    (ap (λ l. own_slot l c.args.tx) (sym h.stands.begun) ∙ ap (λ l. own_slot l c.args.tx) (sym c.deref.ensures.value)
    ∙ sym c.own_slot.ensures ∙ c.in-Some.is) in
    comes_as g.V.Verifier g.S.Signer s st _ _ _ _ (reads_as s st c.args.tx client slot c.args.key.now own)
    (c.call.ensures s st (λ x. call_read (client_self s client) x slot c.args.key.now) h (λ x. refl))

pub returns-in-None : goal.returns-in-None
returns-in-None g c s st h =
    comes_same g.V.Verifier g.S.Signer s st c.args.self.now _
    (reads_none s st c.args.tx c.args.key.now
    (ap (λ l. own_slot l c.args.tx) (sym h.stands.begun) ∙ ap (λ l. own_slot l c.args.tx) (sym c.deref.ensures.value)
    ∙ sym c.own_slot.ensures ∙ c.in-None.is)) h
