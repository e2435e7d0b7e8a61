use Rattle.std.proofs.Common.{refl, ◌∙◌, ap}
use Rattle.cluster_nodes.proofs.Replicas.{full_by, sent_by, still_stands}
use Rattle.cluster_nodes.proofs.Taking.{within_by, asked, shows_on}
use Rattle.cluster_nodes.proofs.standing.StandingReplica.take.Goals as goal

pub returns-then-has-clause-answer : goal.returns-then-has-clause-answer
returns-then-has-clause-answer g c s x st =
    sent_by g.V.Verifier g.S.Signer s x c.plans_tell.ensures c.places_never_repeat.ensures c.args.self.now _ c.plan.new.self c.args.from
    c.args.frame.now c.args.room c.in-Ok.plan c.commit.result st
    (record {
      keys = c.commit.ensures.keys ∙ c.plan.ensures.keys;
      seat = c.commit.ensures.seat ∙ c.plan.ensures.seat;
      fixed = c.commit.ensures.fixed ∙ ap g.S.Signer.fixed c.plan.ensures.pen;
      moment = refl;
    })
    (record {
      answer = c.in-Ok.ensures.answer x.book st.book;
      ready = c.in-Ok.ensures.ready;
      same = c.plan.ensures.same;
      keys = c.plan.ensures.keys;
      pen = c.plan.ensures.pen;
      seat = c.plan.ensures.seat;
    })
    c.commit.ensures.done
    (asked c.args.room c.in-Ok.plan.messages c.in-Ok.plan.bytes _ _ _ _ c.messages.ensures c.bytes.ensures c.has.ensures c.if-has.true)

pub returns-else-has-clause-answer : goal.returns-else-has-clause-answer
returns-else-has-clause-answer g c s x st =
    full_by g.V.Verifier g.S.Signer s x c.plans_tell.ensures c.args.self.now _ c.plan.new.self c.args.from c.args.frame.now
    c.args.room c.in-Ok.plan st
    (still_stands g.V.Verifier g.S.Signer s x c.args.self.now _
    (record {
      keys = c.give_up.ensures.keys ∙ c.plan.ensures.keys;
      seat = c.give_up.ensures.seat ∙ c.plan.ensures.seat;
      fixed = ap g.S.Signer.fixed (c.give_up.ensures.pen ∙ c.plan.ensures.pen);
      moment = refl;
    })
    (c.give_up.ensures.pen ∙ c.plan.ensures.pen)
    (shows_on c.args.self.now.replica.parts c.plan.new.self.parts c.give_up.new.self.parts c.plan.ensures.same c.give_up.ensures.same)
    st)
    (record {
      answer = c.in-Ok.ensures.answer x.book st.book;
      ready = c.in-Ok.ensures.ready;
      same = c.plan.ensures.same;
      keys = c.plan.ensures.keys;
      pen = c.plan.ensures.pen;
      seat = c.plan.ensures.seat;
    })
    (asked c.args.room c.in-Ok.plan.messages c.in-Ok.plan.bytes _ _ _ _ c.messages.ensures c.bytes.ensures c.has.ensures c.if-has.false)

pub returns-then-has-clause-within : goal.returns-then-has-clause-within
returns-then-has-clause-within g c =
    within_by c.args.room c.commit.result c.in-Ok.plan.messages c.in-Ok.plan.bytes c.commit.ensures.messages c.commit.ensures.bytes
    (asked c.args.room c.in-Ok.plan.messages c.in-Ok.plan.bytes _ _ _ _ c.messages.ensures c.bytes.ensures c.has.ensures c.if-has.true)
