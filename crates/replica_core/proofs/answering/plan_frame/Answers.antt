use Rattle.std.proofs.Common.{◌≡◌, Ok, Err, Result, sym, ap, subst}
use Rattle.frame_views.specs.declared.fault.BadFrame.{BadFrame}
use Rattle.frame_views.specs.Fitting.{bounds_of}
use Rattle.frame_views.specs.Frames.{frame_in, Answers}
use Rattle.frame_views.specs.Shown.{message_of}
use Rattle.frame_views.specs.Values.{MessageValue}
use Rattle.node_steps.specs.Pens.{pen_value}
use Rattle.replica_core.specs.Answers.{answer, answer_read_frame}
use Rattle.replica_core.specs.Leads.{kept_next}
use Rattle.replica_core.specs.Nodes.{book_shown}
use Rattle.replica_core.specs.Replicas.{BookValue}
use Rattle.replica_core.specs.Seats.{self_at}
use Rattle.replica_core.specs.Telling.{IsPlanned}
use Rattle.replica_core.specs.Works.{perform_work}
use Rattle.replica_core.proofs.answering.plan_frame.Goals as goal

pub returns-in-Ok-clause-answer : goal.returns-in-Ok-clause-answer
returns-in-Ok-clause-answer g c book s =
    let sg = g.S.Signer.fixed c.args.pen.now in
    let pen = pen_value (g.S.Signer.spent c.args.pen.now) (g.S.Signer.left_of c.args.pen.now) in
    let me = self_at c.args.seat.now (g.V.Verifier.accepted c.args.keys.now) sg in
    let frame = c.args.frame.now in
    let there = frame_in (bounds_of c.args.seat.now.home.cluster) frame in
    let b = book_shown book c.args.parts.now pen in
    let r = c.plan_message.result in
    let done = perform_work sg (kept_next c.plan_message.new.parts.leading) in
    let read : there ≡ Ok (message_of c.in-Ok.m) = subst (λ x. Answers message_of x there) c.in-Ok.is c.check.ensures.exact in
    subst (λ (b : BookValue). IsPlanned done b r (answer me c.args.now c.args.from b frame)) s.same
    (subst (λ (x : Result MessageValue BadFrame). IsPlanned done b r (answer_read_frame me c.args.now c.args.from b x)) (sym read)
    (c.plan_message.ensures.answer book s.noted))

pub returns-in-Err-clause-answer : goal.returns-in-Err-clause-answer
returns-in-Err-clause-answer g c book s some =
    let sg = g.S.Signer.fixed c.args.pen.now in
    let me = self_at c.args.seat.now (g.V.Verifier.accepted c.args.keys.now) sg in
    let there = frame_in (bounds_of c.args.seat.now.home.cluster) c.args.frame.now in
    let read : there ≡ Err c.in-Err.fault = subst (λ x. Answers message_of x there) c.in-Err.is c.check.ensures.exact in
    ap (λ (x : Result MessageValue BadFrame). answer_read_frame me c.args.now c.args.from book x) read
