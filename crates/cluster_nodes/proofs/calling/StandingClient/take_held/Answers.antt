use Rattle.std.proofs.Common.{◌∙◌, ap}
use Rattle.client_core.specs.Asks.{answer_to}
use Rattle.cluster_run.specs.Parts.{client_self}
use Rattle.cluster_nodes.proofs.Clients.{full_by, planned_here, sent_by, still_holds}
use Rattle.cluster_nodes.proofs.Taking.{within_by, asked}
use Rattle.cluster_nodes.proofs.calling.StandingClient.take_held.Goals as goal

pub returns-then-has-clause-answer : goal.returns-then-has-clause-answer
returns-then-has-clause-answer g c s number client st =
    sent_by g.V.Verifier g.S.Signer s number client c.client_plans_tell.ensures c.args.self.now _ c.plan.new.self c.args.room
    (answer_to (client_self s number) client c.args.ask)
    c.in-Ok.plan c.commit.result st
    (record {
      keys = c.commit.ensures.keys ∙ c.plan.ensures.keys;
      seat = c.commit.ensures.seat ∙ c.plan.ensures.seat;
      fixed = c.commit.ensures.fixed ∙ ap g.S.Signer.fixed c.plan.ensures.pen;
    })
    (record {
      answer = planned_here g.V.Verifier g.S.Signer s number client c.args.self.now c.plan.new.self.held c.in-Ok.plan c.args.ask st
          (c.in-Ok.ensures.answer client st.shows);
      ready = c.in-Ok.ensures.ready;
      shown = c.plan.ensures.shown client st.shows;
      pen = c.plan.ensures.pen;
    })
    c.commit.ensures.done
    (asked c.args.room c.in-Ok.plan.messages c.in-Ok.plan.bytes _ _ _ _ c.messages.ensures c.bytes.ensures c.has.ensures c.if-has.true)

pub returns-else-has-clause-answer : goal.returns-else-has-clause-answer
returns-else-has-clause-answer g c s number client st =
    full_by g.V.Verifier g.S.Signer s number client c.client_plans_tell.ensures c.args.self.now _ c.plan.new.self c.args.room
    (answer_to (client_self s number) client c.args.ask)
    c.in-Ok.plan st
    (still_holds g.V.Verifier g.S.Signer s number client c.args.self.now _
    (record {
      keys = c.give_up.ensures.keys ∙ c.plan.ensures.keys;
      seat = c.give_up.ensures.seat ∙ c.plan.ensures.seat;
      fixed = ap g.S.Signer.fixed (c.give_up.ensures.pen ∙ c.plan.ensures.pen);
    })
    st (c.give_up.ensures.shown client (c.plan.ensures.shown client st.shows)))
    (record {
      answer = planned_here g.V.Verifier g.S.Signer s number client c.args.self.now c.plan.new.self.held c.in-Ok.plan c.args.ask st
          (c.in-Ok.ensures.answer client st.shows);
      ready = c.in-Ok.ensures.ready;
      shown = c.plan.ensures.shown client st.shows;
      pen = c.plan.ensures.pen;
    })
    (asked c.args.room c.in-Ok.plan.messages c.in-Ok.plan.bytes _ _ _ _ c.messages.ensures c.bytes.ensures c.has.ensures c.if-has.false)

pub returns-then-has-clause-within : goal.returns-then-has-clause-within
returns-then-has-clause-within g c =
    within_by c.args.room c.commit.result c.in-Ok.plan.messages c.in-Ok.plan.bytes c.commit.ensures.messages c.commit.ensures.bytes
    (asked c.args.room c.in-Ok.plan.messages c.in-Ok.plan.bytes _ _ _ _ c.messages.ensures c.bytes.ensures c.has.ensures c.if-has.true)
