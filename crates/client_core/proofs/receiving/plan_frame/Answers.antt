use Rattle.std.proofs.Common.{sym, ap, subst}
use Rattle.client_core.specs.Answers.{on_read_frame}
use Rattle.client_core.specs.Receiving.{IsPlannedFrame}
use Rattle.client_core.specs.Seats.{self_at}
use Rattle.client_core.proofs.receiving.plan_frame.Goals as goal

pub returns-in-Ok-clause-answer : goal.returns-in-Ok-clause-answer
returns-in-Ok-clause-answer g c = λ signing v h.
    let me = self_at c.args.seat.now (g.V.Verifier.accepted c.args.keys.now) signing in
    subst (IsPlannedFrame signing c.plan_message.new.held v c.plan_message.result) (sym (ap (on_read_frame me v) c.in-Ok.ensures.exact))
    (c.plan_message.ensures.answer signing v h)

pub returns-in-Err-clause-answer : goal.returns-in-Err-clause-answer
returns-in-Err-clause-answer g c = λ signing v h wanting.
    let me = self_at c.args.seat.now (g.V.Verifier.accepted c.args.keys.now) signing in
    ap (on_read_frame me v) c.in-Err.ensures.exact
