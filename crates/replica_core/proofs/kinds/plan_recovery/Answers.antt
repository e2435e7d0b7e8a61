use Rattle.std.proofs.Common.{◌≡◌, ℕ, List, Result, sym, ap, subst, ◌∙◌}
use Rattle.std.specs.Prelude.{IfOk}
use Rattle.basil_types.specs.Shown.{transaction_of}
use Rattle.basil_types.specs.Transaction.{id}
use Rattle.node_steps.specs.Pens.{pen_value}
use Rattle.replica_core.specs.declared.plan.Work.{Work}
use Rattle.replica_core.specs.declared.refusal.Refusal.{Refusal}
use Rattle.replica_core.specs.FirstStage.{unless_ended}
use Rattle.replica_core.specs.Known.{logged_with}
use Rattle.replica_core.specs.KnownWorks.{perform_known}
use Rattle.replica_core.specs.Leads.{kept_next}
use Rattle.replica_core.specs.Nodes.{book_shown}
use Rattle.replica_core.specs.Seats.{self_at}
use Rattle.replica_core.specs.SecondStage.{recover_by}
use Rattle.replica_core.specs.Telling.{IsPlanned}
use Rattle.replica_core.specs.Works.{CanPerform, perform_work}
use Rattle.replica_core.proofs.KindPlans.{known_planned, known_ready}
use Rattle.replica_core.proofs.Planning.{if_ok_at}
use Rattle.replica_core.proofs.kinds.plan_recovery.Goals as goal

pub returns-in-Some-clause-answer : goal.returns-in-Some-clause-answer
returns-in-Some-clause-answer g c accepts book s =
    let sg = g.S.Signer.fixed c.args.pen.now in
    let pen = pen_value (g.S.Signer.spent c.args.pen.now) (g.S.Signer.left_of c.args.pen.now) in
    let parts = c.args.parts.now in
    let b = book_shown book parts pen in
    let t = transaction_of c.args.t in
    let me = self_at c.args.seat.now accepts sg in
    let x = recover_by me c.args.now c.args.from b t (logged_with b.logged (id t)) in
    let named = c.id-id.ensures in
    let kept = kept_next parts.leading in
    subst (λ (r : Result Work Refusal). IsPlanned (perform_work sg kept) b r (unless_ended c.args.from b (id t) x))
    (sym c.known_work.ensures)
    (known_planned sg kept b c.in-Some.planned (unless_ended c.args.from b (id t) x)
    (subst (λ (y : List ℕ). IsPlanned (perform_known sg) b c.in-Some.planned (unless_ended c.args.from b y x)) named
    (c.plan_ended.ensures.ended c.in-Some.planned c.in-Some.is sg b pen x)))

pub returns-in-None-clause-answer : goal.returns-in-None-clause-answer
returns-in-None-clause-answer g c accepts book s =
    let sg = g.S.Signer.fixed c.args.pen.now in
    let pen = pen_value (g.S.Signer.spent c.args.pen.now) (g.S.Signer.left_of c.args.pen.now) in
    let parts = c.args.parts.now in
    let b = book_shown book parts pen in
    let t = transaction_of c.args.t in
    let me = self_at c.args.seat.now accepts sg in
    let x = recover_by me c.args.now c.args.from b t (logged_with b.logged (id t)) in
    let named = c.id-id.ensures in
    let goes : unless_ended c.args.from b (id t) x ≡ x =
    ap (λ (y : List ℕ). unless_ended c.args.from b y x) (sym named) ∙ c.plan_ended.ensures.goes_on c.in-None.is b pen x in
    subst (IsPlanned (perform_work sg (kept_next c.plan_unended.new.parts.leading)) b c.plan_unended.result) (sym goes)
    (c.plan_unended.ensures.answer accepts book s)

pub returns-in-Some-clause-ready : goal.returns-in-Some-clause-ready
returns-in-Some-clause-ready g c =
    let size = (g.S.Signer.fixed c.args.pen.now).size in
    let left = g.S.Signer.left_of c.args.pen.now in
    let parts = c.args.parts.now in
    subst (λ (r : Result Work Refusal). IfOk r (CanPerform size left parts)) (sym c.known_work.ensures)
    (known_ready size left parts c.in-Some.planned
    (if_ok_at size left parts.known c.in-Some.planned (c.plan_ended.ensures.ready c.in-Some.planned c.in-Some.is)))
