use Rattle.std.proofs.Common.{Result, sym, subst}
use Rattle.frame_views.specs.declared.frames.views.MessageView.{MessageView}
use Rattle.frame_views.specs.Shown.{message_of, read_of, elect_message_of, decide_of, certificate_of}
use Rattle.basil_types.specs.Shown.{transaction_of}
use Rattle.node_steps.specs.Pens.{pen_value}
use Rattle.replica_core.specs.declared.plan.Work.{Work}
use Rattle.replica_core.specs.declared.refusal.Refusal.{Refusal}
use Rattle.replica_core.specs.Answers.{answer_kind}
use Rattle.replica_core.specs.Elections.{answer_elect, answer_decide}
use Rattle.replica_core.specs.FirstStage.{answer_st1}
use Rattle.replica_core.specs.Leads.{kept_next}
use Rattle.replica_core.specs.Nodes.{book_shown}
use Rattle.replica_core.specs.Reads.{answer_read}
use Rattle.replica_core.specs.Seats.{self_at}
use Rattle.replica_core.specs.Telling.{IsPlanned}
use Rattle.replica_core.specs.Works.{perform_work}
use Rattle.replica_core.specs.Writebacks.{answer_writeback}
use Rattle.replica_core.proofs.KindPlans.{known_planned, read_planned, log_planned, lead_planned}
use Rattle.replica_core.proofs.kinds.plan_kind.Goals as goal

pub returns-in-Read-clause-answer : goal.returns-in-Read-clause-answer
returns-in-Read-clause-answer g c accepts book s =
    let sg = g.S.Signer.fixed c.args.pen.now in
    let pen = pen_value (g.S.Signer.spent c.args.pen.now) (g.S.Signer.left_of c.args.pen.now) in
    let b = book_shown book c.args.parts.now pen in
    let me = self_at c.args.seat.now accepts sg in
    let kept = kept_next c.args.parts.now.leading in
    let r = c.plan_read.result in
    subst (λ (v : MessageView). IsPlanned (perform_work sg kept) b c.read_work.result
    (answer_kind me c.args.now c.args.from b (message_of v))) (sym c.in-Read.is)
    (subst (λ (r : Result Work Refusal). IsPlanned (perform_work sg kept) b r
    (answer_read me c.args.now c.args.from b (read_of c.in-Read.m))) (sym c.read_work.ensures)
    (read_planned sg kept b r (answer_read me c.args.now c.args.from b (read_of c.in-Read.m)) (c.plan_read.ensures.answer accepts b s)))

pub returns-in-St1-clause-answer : goal.returns-in-St1-clause-answer
returns-in-St1-clause-answer g c accepts book s =
    let sg = g.S.Signer.fixed c.args.pen.now in
    let pen = pen_value (g.S.Signer.spent c.args.pen.now) (g.S.Signer.left_of c.args.pen.now) in
    let b = book_shown book c.args.parts.now pen in
    let me = self_at c.args.seat.now accepts sg in
    let kept = kept_next c.args.parts.now.leading in
    let r = c.plan_st1.result in
    subst (λ (v : MessageView). IsPlanned (perform_work sg kept) b c.known_work.result
    (answer_kind me c.args.now c.args.from b (message_of v))) (sym c.in-St1.is)
    (subst (λ (r : Result Work Refusal). IsPlanned (perform_work sg kept) b r
    (answer_st1 me c.args.now c.args.from b (transaction_of c.in-St1.m.transaction))) (sym c.known_work.ensures)
    (known_planned sg kept b r (answer_st1 me c.args.now c.args.from b (transaction_of c.in-St1.m.transaction))
    (c.plan_st1.ensures.answer accepts b s)))

pub returns-in-St2-clause-answer : goal.returns-in-St2-clause-answer
returns-in-St2-clause-answer g c accepts book s =
    let sg = g.S.Signer.fixed c.args.pen.now in
    let pen = pen_value (g.S.Signer.spent c.args.pen.now) (g.S.Signer.left_of c.args.pen.now) in
    let b = book_shown book c.args.parts.now pen in
    let me = self_at c.args.seat.now accepts sg in
    subst (λ (v : MessageView). IsPlanned (perform_work sg (kept_next c.plan_second.new.parts.leading)) b c.plan_second.result
    (answer_kind me c.args.now c.args.from b (message_of v))) (sym c.in-St2.is)
    (c.plan_second.ensures.answer accepts book s)

pub returns-in-Writeback-clause-answer : goal.returns-in-Writeback-clause-answer
returns-in-Writeback-clause-answer g c accepts book s =
    let sg = g.S.Signer.fixed c.args.pen.now in
    let pen = pen_value (g.S.Signer.spent c.args.pen.now) (g.S.Signer.left_of c.args.pen.now) in
    let b = book_shown book c.args.parts.now pen in
    let me = self_at c.args.seat.now accepts sg in
    let kept = kept_next c.args.parts.now.leading in
    let r = c.plan_writeback.result in
    subst (λ (v : MessageView). IsPlanned (perform_work sg kept) b c.known_work-in-Writeback.result
    (answer_kind me c.args.now c.args.from b (message_of v))) (sym c.in-Writeback.is)
    (subst (λ (r : Result Work Refusal). IsPlanned (perform_work sg kept) b r
    (answer_writeback me b
    (record { transaction = transaction_of c.in-Writeback.m.transaction; certificate = certificate_of c.in-Writeback.m.certificate })))
    (sym c.known_work-in-Writeback.ensures)
    (known_planned sg kept b r
    (answer_writeback me b
    (record { transaction = transaction_of c.in-Writeback.m.transaction; certificate = certificate_of c.in-Writeback.m.certificate }))
    (c.plan_writeback.ensures.answer accepts b s)))

pub returns-in-Recover-clause-answer : goal.returns-in-Recover-clause-answer
returns-in-Recover-clause-answer g c accepts book s =
    let sg = g.S.Signer.fixed c.args.pen.now in
    let pen = pen_value (g.S.Signer.spent c.args.pen.now) (g.S.Signer.left_of c.args.pen.now) in
    let b = book_shown book c.args.parts.now pen in
    let me = self_at c.args.seat.now accepts sg in
    subst (λ (v : MessageView). IsPlanned (perform_work sg (kept_next c.plan_recovery.new.parts.leading)) b c.plan_recovery.result
    (answer_kind me c.args.now c.args.from b (message_of v))) (sym c.in-Recover.is)
    (c.plan_recovery.ensures.answer accepts book s)

pub returns-in-Elect-clause-answer : goal.returns-in-Elect-clause-answer
returns-in-Elect-clause-answer g c accepts book s =
    let sg = g.S.Signer.fixed c.args.pen.now in
    let pen = pen_value (g.S.Signer.spent c.args.pen.now) (g.S.Signer.left_of c.args.pen.now) in
    let b = book_shown book c.args.parts.now pen in
    let me = self_at c.args.seat.now accepts sg in
    let kept = kept_next c.plan_elect.new.leading in
    let r = c.plan_elect.result in
    subst (λ (v : MessageView). IsPlanned (perform_work sg kept) b c.lead_work.result
    (answer_kind me c.args.now c.args.from b (message_of v))) (sym c.in-Elect.is)
    (subst (λ (r : Result Work Refusal). IsPlanned (perform_work sg kept) b r (answer_elect me b (elect_message_of c.in-Elect.m)))
    (sym c.lead_work.ensures)
    (lead_planned sg kept b r (answer_elect me b (elect_message_of c.in-Elect.m)) (c.plan_elect.ensures.answer accepts b)))

pub returns-in-Decide-clause-answer : goal.returns-in-Decide-clause-answer
returns-in-Decide-clause-answer g c accepts book s =
    let sg = g.S.Signer.fixed c.args.pen.now in
    let pen = pen_value (g.S.Signer.spent c.args.pen.now) (g.S.Signer.left_of c.args.pen.now) in
    let b = book_shown book c.args.parts.now pen in
    let me = self_at c.args.seat.now accepts sg in
    let kept = kept_next c.args.parts.now.leading in
    let r = c.plan_decide.result in
    subst (λ (v : MessageView). IsPlanned (perform_work sg kept) b c.log_work.result
    (answer_kind me c.args.now c.args.from b (message_of v))) (sym c.in-Decide.is)
    (subst (λ (r : Result Work Refusal). IsPlanned (perform_work sg kept) b r (answer_decide me b (decide_of c.in-Decide.m)))
    (sym c.log_work.ensures)
    (log_planned sg kept b r (answer_decide me b (decide_of c.in-Decide.m)) (c.plan_decide.ensures.answer accepts b)))
