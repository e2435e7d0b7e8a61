use Rattle.std.proofs.Common.{◌∙◌, ap, sym}
use Rattle.cluster_run.specs.Events.{at_tx, claims_at}
use Rattle.cluster_world.specs.Beginning.{version_claimed}
use Rattle.cluster_world.proofs.BeginLaws.{claims_named, comes_as}
use Rattle.cluster_world.proofs.engine.Engine.claim.Goals as goal

pub returns-in-Some : goal.returns-in-Some
returns-in-Some g c s st h =
    let tx = c.args.tx in
    let key = c.args.key.now in
    comes_as g.V.Verifier g.S.Signer s st _ _ _ _
    (claims_named s st tx key c.args.writer
    ∙ ap (λ o. at_tx tx (claims_at tx key o) st)
    (ap (λ l. version_claimed l c.args.writer) (sym h.stands.begun) ∙ ap (λ l. version_claimed l c.args.writer) (sym c.deref.ensures.value)
    ∙ sym c.version_claimed.ensures ∙ c.in-Some.is))
    (c.claim_at.ensures s st h)
