use Rattle.std.proofs.Common.{◌∙◌, refl, subst, sym}
use Rattle.basil_types.specs.declared.party.Party.TheVariants.{Replica}
use Rattle.cluster_run.specs.Faulty.{faulty_reply}
use Rattle.faulty_parties.specs.Lies.{Says}
use Rattle.faulty_parties.specs.Unsaid.{unsaid_reply}
use Rattle.cluster_world.specs.Lying.{CanSay}
use Rattle.cluster_world.proofs.LyingLaws.{lies_not, lies_said}
use Rattle.cluster_world.proofs.engine.Engine.log_reply.Goals as goal

pub returns-in_err-size : goal.returns-in_err-size
returns-in_err-size g c = λ s st h.
    let a = c.args in
    lies_not g.V.Verifier g.S.Signer s st a.tx (Replica a.place.shard a.place.index)
    (λ f st. faulty_reply s a.place.shard a.place.index f.transaction a.logged.decision a.logged.decided a.logged.current a.client st)
    a.self.now c.in-Some.formed.now h c.in-Some.ensures c.replica_at-party.result c.replica_at-party.ensures c.in_err-size.field-0.0
    c.from_residual.result c.from_residual.ensures.1 (c.in_err-size.ensures.as_run s st h.stands)

pub returns : goal.returns
returns g c = λ s st h.
    let a = c.args in
    let f = c.in-Some.formed.now in
    let u = unsaid_reply a.place.shard a.place.index f.transaction a.logged.decision a.logged.decided a.logged.current a.client in
    let can = c.in_ok-size.ensures.as_run s st h.stands in
    lies_said g.V.Verifier g.S.Signer s st a.tx (Replica a.place.shard a.place.index)
    (λ f st. faulty_reply s a.place.shard a.place.index f.transaction a.logged.decision a.logged.decided a.logged.current a.client st)
    a.self.now f h c.in-Some.ensures c.replica_at-party.result c.replica_at-party.ensures u c.say.new.self c.say.result can.left refl
    (c.say.ensures s st u h (sym c.replica_at-party.ensures)
    (subst (λ t. Says (unsaid_reply a.place.shard a.place.index t a.logged.decision
    a.logged.decided a.logged.current a.client) c.in_ok-lie.lie)
    (c.view.ensures.value ∙ c.transaction.ensures.value) c.in_ok-lie.ensures.says)
    (subst (CanSay s st c.replica_at-party.result) c.in_ok-size.ensures.own.size can))
