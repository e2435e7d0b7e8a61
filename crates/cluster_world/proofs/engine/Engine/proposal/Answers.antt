use Rattle.std.proofs.Common.{◌∙◌, refl, subst, sym}
use Rattle.basil_types.specs.declared.party.Party.TheVariants.{Replica}
use Rattle.cluster_run.specs.Faulty.{faulty_proposal, words_from}
use Rattle.faulty_parties.specs.Lies.{Says}
use Rattle.faulty_parties.specs.Unsaid.{unsaid_proposal}
use Rattle.run_sight.specs.Sights.{sight_of}
use Rattle.cluster_world.specs.Lying.{CanSay}
use Rattle.cluster_world.proofs.LyingLaws.{lies_not, lies_said}
use Rattle.cluster_world.proofs.engine.Engine.proposal.Goals as goal

pub returns-in_err-size : goal.returns-in_err-size
returns-in_err-size g c = λ s st h.
    let a = c.args in
    lies_not g.V.Verifier g.S.Signer s st a.tx (Replica a.place.shard a.place.index)
    (λ f st. faulty_proposal s a.place.shard a.place.index f.transaction a.said.decision a.said.view a.to st)
    a.self.now c.in-Some.formed.now h c.in-Some.ensures c.replica_at-party.result c.replica_at-party.ensures c.in_err-size.field-0.0
    c.from_residual.result c.from_residual.ensures.1 (c.in_err-size.ensures.as_run s st h.stands)

pub returns : goal.returns
returns g c = λ s st h.
    let a = c.args in
    let f = c.in-Some.formed.now in
    let u = unsaid_proposal a.place.shard a.place.index f.transaction a.said.decision a.said.view a.to
    (words_from s st f.transaction a.said.decision a.place.shard a.said.view) in
    let can = c.in_ok-size.ensures.as_run s st h.stands in
    lies_said g.V.Verifier g.S.Signer s st a.tx (Replica a.place.shard a.place.index)
    (λ f st. faulty_proposal s a.place.shard a.place.index f.transaction a.said.decision a.said.view a.to st)
    a.self.now f h c.in-Some.ensures c.replica_at-party.result c.replica_at-party.ensures u c.say.new.self c.say.result can.left refl
    (c.say.ensures s st u h (sym c.replica_at-party.ensures)
    (subst (λ t. Says (unsaid_proposal a.place.shard a.place.index t a.said.decision a.said.view a.to
    (words_from s st t a.said.decision a.place.shard a.said.view)) c.in_ok-lie.lie)
    (c.view-t.ensures.value ∙ c.transaction.ensures.value)
    (c.in_ok-lie.ensures.says s st (c.cluster-cluster.ensures s (sight_of st) h.stands.earlier h.stands.sight)
    (c.keys-keys.ensures s (sight_of st) h.stands.earlier h.stands.sight) h.posts))
    (subst (CanSay s st c.replica_at-party.result) c.in_ok-size.ensures.own.size can))
