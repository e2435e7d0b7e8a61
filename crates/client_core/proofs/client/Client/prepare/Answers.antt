use Rattle.node_steps.specs.Pens.{pen_value}
use Rattle.client_core.proofs.ShownLaws.{can_commit}
use Rattle.client_core.proofs.client.Client.prepare.Goals as goal

pub finish-requires : goal.finish-requires
finish-requires g c =
    let me = c.args.self.now in
    let signing = g.S.Signer.fixed me.pen in
    let pen = pen_value (g.S.Signer.spent me.pen) (g.S.Signer.left_of me.pen) in
    let accepts = g.V.Verifier.accepted me.keys in
    can_commit signing pen me.held me.held (λ v h. h) me.shown c.in-Ok.plan _ c.in-Ok.ensures.ready
    (λ v h. c.in-Ok.ensures.answer accepts v h.shows h.place)

pub returns-in-Ok-finish-clause-answer : goal.returns-in-Ok-finish-clause-answer
returns-in-Ok-finish-clause-answer g c = λ v h.
    let a = c.in-Ok.ensures.answer (g.V.Verifier.accepted c.args.self.now.keys) v h.shows h.place in
    (a.0, a.1, c.in-Ok-finish.ensures.done v a.0 h a.2)
