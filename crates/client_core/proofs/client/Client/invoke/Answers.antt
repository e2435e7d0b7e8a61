use Rattle.std.proofs.Common.{◌∙◌}
use Rattle.node_steps.specs.Pens.{pen_value}
use Rattle.client_core.proofs.ShownLaws.{can_commit, kept_count, slots_then, still_shown}
use Rattle.client_core.proofs.client.Client.invoke.Goals as goal

pub finish-requires : goal.finish-requires
finish-requires g c =
    let me = c.args.self.now in
    let signing = g.S.Signer.fixed me.pen in
    let pen = pen_value (g.S.Signer.spent me.pen) (g.S.Signer.left_of me.pen) in
    let accepts = g.V.Verifier.accepted me.keys in
    can_commit signing pen me.held c.plan_invoke.new.held c.in-Ok.ensures.shown me.shown c.in-Ok.plan _
    (c.in-Ok.ensures.ready signing.size pen.left) (λ v h. c.in-Ok.ensures.answer signing accepts v h.shows)

pub invariant_of-self : goal.invariant_of-self
invariant_of-self g c =
    let me = c.args.self.now in
    let pen = pen_value (g.S.Signer.spent me.pen) (g.S.Signer.left_of me.pen) in
    record {
      same = c.plan_invoke.ensures.cluster ∙ me.same;
      shown = still_shown me.held c.plan_invoke.new.held pen c.plan_invoke.ensures.shown me.shown;
    }

pub returns-in-Ok-finish-clause-answer : goal.returns-in-Ok-finish-clause-answer
returns-in-Ok-finish-clause-answer g c = λ v h.
    let a = c.in-Ok.ensures.answer (g.S.Signer.fixed c.args.self.now.pen) (g.V.Verifier.accepted c.args.self.now.keys) v h.shows in
    (a.0, a.1, c.in-Ok-finish.ensures.done v a.0 (record { shows = c.in-Ok.ensures.shown v h.shows; place = h.place }) a.2)

pub returns-in-Ok-finish-clause-slots : goal.returns-in-Ok-finish-clause-slots
returns-in-Ok-finish-clause-slots g c =
    let me = c.args.self.now in
    slots_then me.held c.plan_invoke.new.held c.finish.new.self.held (kept_count me.held c.plan_invoke.new.held
    (pen_value (g.S.Signer.spent me.pen) (g.S.Signer.left_of me.pen)) c.plan_invoke.ensures.shown me.shown)
    c.in-Ok-finish.ensures.slots

pub returns-in-Err-finish-clause-slots : goal.returns-in-Err-finish-clause-slots
returns-in-Err-finish-clause-slots g c =
    let me = c.args.self.now in
    slots_then me.held c.plan_invoke.new.held c.finish.new.self.held (kept_count me.held c.plan_invoke.new.held
    (pen_value (g.S.Signer.spent me.pen) (g.S.Signer.left_of me.pen)) c.plan_invoke.ensures.shown me.shown)
    c.in-Err-finish.ensures.slots

pub returns-in-Err-clause-slots : goal.returns-in-Err-clause-slots
returns-in-Err-clause-slots g c =
    let me = c.args.self.now in
    kept_count me.held c.plan_invoke.new.held
    (pen_value (g.S.Signer.spent me.pen) (g.S.Signer.left_of me.pen)) c.plan_invoke.ensures.shown me.shown
