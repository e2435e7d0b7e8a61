use Rattle.std.proofs.Common.{◌≡◌, true, false, Result, sym, ap, subst, ◌∙◌}
use Rattle.basil_types.specs.Shown.{transaction_of}
use Rattle.basil_types.specs.Transaction.{id}
use Rattle.node_steps.specs.Pens.{pen_value}
use Rattle.txn_table.specs.Tables.{entry_with}
use Rattle.replica_core.specs.declared.plan.Work.{Work}
use Rattle.replica_core.specs.declared.refusal.Refusal.{Refusal}
use Rattle.replica_core.specs.Kinds.{tells}
use Rattle.replica_core.specs.Known.{logged_with}
use Rattle.replica_core.specs.KnownWorks.{perform_known}
use Rattle.replica_core.specs.Leads.{kept_next}
use Rattle.replica_core.specs.LogWorks.{perform_log}
use Rattle.replica_core.specs.Nodes.{book_shown}
use Rattle.replica_core.specs.Seats.{self_at}
use Rattle.replica_core.specs.SecondStage.{recover_by}
use Rattle.replica_core.specs.Telling.{IsPlanned}
use Rattle.replica_core.specs.Works.{perform_work}
use Rattle.replica_core.proofs.KindPlans.{known_planned, log_planned}
use Rattle.replica_core.proofs.Recovering.{goes_first, goes_told}
use Rattle.replica_core.proofs.kinds.plan_unended.Goals as goal

pub plan_first_stage-planned-requires : goal.plan_first_stage-planned-requires
plan_first_stage-planned-requires g c x h =
    c.requires.undecided x (ap (entry_with c.args.parts.now.known.table.entries) c.requires.named ∙ h)

pub returns-then-is_told-clause-answer : goal.returns-then-is_told-clause-answer
returns-then-is_told-clause-answer g c accepts book s =
    let sg = g.S.Signer.fixed c.args.pen.now in
    let pen = pen_value (g.S.Signer.spent c.args.pen.now) (g.S.Signer.left_of c.args.pen.now) in
    let parts = c.args.parts.now in
    let b = book_shown book parts pen in
    let t = transaction_of c.args.t in
    let me = self_at c.args.seat.now accepts sg in
    let answer = recover_by me c.args.now c.args.from b t (logged_with b.logged (id t)) in
    let tell : tells me b t ≡ true = sym (c.is_told.ensures.tells accepts sg b) ∙ c.if-is_told.true in
    let told = goes_told me c.args.now c.args.from b t tell in
    let found = ap (logged_with b.logged) c.requires.named ∙ told.1 in
    let r = c.plan_told-planned.result in
    let kept = kept_next parts.leading in
    subst (λ (r : Result Work Refusal). IsPlanned (perform_work sg kept) b r answer) (sym c.log_work.ensures)
    (log_planned sg kept b r answer
    (subst (IsPlanned (perform_log sg) b r) (sym told.2) (c.plan_told-planned.ensures.answer accepts b told.0 found)))

pub returns-else-is_told-clause-answer : goal.returns-else-is_told-clause-answer
returns-else-is_told-clause-answer g c accepts book s =
    let sg = g.S.Signer.fixed c.args.pen.now in
    let pen = pen_value (g.S.Signer.spent c.args.pen.now) (g.S.Signer.left_of c.args.pen.now) in
    let parts = c.args.parts.now in
    let b = book_shown book parts pen in
    let t = transaction_of c.args.t in
    let me = self_at c.args.seat.now accepts sg in
    let answer = recover_by me c.args.now c.args.from b t (logged_with b.logged (id t)) in
    let tell : tells me b t ≡ false = sym (c.is_told.ensures.tells accepts sg b) ∙ c.if-is_told.false in
    let r = c.plan_first_stage-planned.result in
    let kept = kept_next parts.leading in
    subst (λ (r : Result Work Refusal). IsPlanned (perform_work sg kept) b r answer) (sym c.known_work.ensures)
    (known_planned sg kept b r answer
    (subst (IsPlanned (perform_known sg) b r) (sym (goes_first me c.args.now c.args.from b t tell))
    (c.plan_first_stage-planned.ensures.answer accepts b s)))
