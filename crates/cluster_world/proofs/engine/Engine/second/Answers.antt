use Rattle.std.proofs.Common.{◌∙◌, ap}
use Rattle.basil_types.specs.Transaction.{TransactionValue}
use Rattle.run_sight.specs.Sights.{sight_of}
use Rattle.cluster_world.proofs.LyingLaws.{second_comes}
use Rattle.cluster_world.proofs.engine.Engine.second.Goals as goal

pub returns : goal.returns
returns g c = λ s st h.
    let a = c.args in
    let f = c.in-Some.formed.now in
    let t = c.view-t.ensures.value ∙ c.transaction.ensures.value in
    second_comes g.V.Verifier g.S.Signer s st a.self.now c.enter.new.self f a.tx a.decision a.replica c.client-number.result
    c.in_ok-message.message c.enter.result h c.in-Some.ensures
    (c.client-number.ensures.value ∙ ap (λ (x : TransactionValue). x.client) t)
    (c.in_ok-message.ensures s st f (c.cluster-cluster.ensures s (sight_of st) h.stands.earlier h.stands.sight)
    (c.keys-keys.ensures s (sight_of st) h.stands.earlier h.stands.sight) h.posts t c.signature-signature.ensures.value)
    (c.enter.ensures s st h)
