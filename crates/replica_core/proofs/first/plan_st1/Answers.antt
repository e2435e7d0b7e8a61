use Rattle.std.proofs.Common.{ℕ, List, sym, ap, subst, ◌∙◌}
use Rattle.basil_types.specs.Shown.{transaction_of}
use Rattle.node_steps.specs.Pens.{pen_value}
use Rattle.txn_table.specs.Tables.{entry_with}
use Rattle.replica_core.specs.FirstStage.{first_stage, unless_ended}
use Rattle.replica_core.specs.KnownWorks.{perform_known}
use Rattle.replica_core.specs.Seats.{self_at, book_with}
use Rattle.replica_core.specs.Telling.{IsPlanned}
use Rattle.replica_core.proofs.Planning.{if_ok_at}
use Rattle.replica_core.proofs.first.plan_st1.Goals as goal

pub plan_first_stage-requires : goal.plan_first_stage-requires
plan_first_stage-requires g c x h =
    let named = c.id-id.ensures in
    c.plan_ended.ensures.undecided c.in-None.is x (ap (entry_with c.args.known.now.table.entries) named ∙ h)

pub returns-in-Some-clause-answer : goal.returns-in-Some-clause-answer
returns-in-Some-clause-answer g c accepts book s =
    let es = c.args.known.now.table.entries in
    let t = transaction_of c.args.t in
    let sg = g.S.Signer.fixed c.args.pen.now in
    let pen = pen_value (g.S.Signer.spent c.args.pen.now) (g.S.Signer.left_of c.args.pen.now) in
    let b = book_with book es pen in
    let x = first_stage (self_at c.args.seat.now accepts sg) c.args.now c.args.from b t in
    let named = c.id-id.ensures in
    subst (λ (y : List ℕ). IsPlanned (perform_known sg) b c.in-Some.planned (unless_ended c.args.from b y x)) named
    (c.plan_ended.ensures.ended c.in-Some.planned c.in-Some.is sg book pen x)

pub returns-in-Some-clause-ready : goal.returns-in-Some-clause-ready
returns-in-Some-clause-ready g c = if_ok_at (g.S.Signer.fixed c.args.pen.now).size (g.S.Signer.left_of c.args.pen.now) c.args.known.now
    c.in-Some.planned (c.plan_ended.ensures.ready c.in-Some.planned c.in-Some.is)

pub returns-in-None-clause-answer : goal.returns-in-None-clause-answer
returns-in-None-clause-answer g c accepts book s =
    let es = c.args.known.now.table.entries in
    let t = transaction_of c.args.t in
    let sg = g.S.Signer.fixed c.args.pen.now in
    let pen = pen_value (g.S.Signer.spent c.args.pen.now) (g.S.Signer.left_of c.args.pen.now) in
    let b = book_with book es pen in
    let x = first_stage (self_at c.args.seat.now accepts sg) c.args.now c.args.from b t in
    let named = c.id-id.ensures in
    let equal = ap (λ (y : List ℕ). unless_ended c.args.from b y x) (sym named) ∙ c.plan_ended.ensures.goes_on c.in-None.is book pen x in
    subst (IsPlanned (perform_known sg) b c.plan_first_stage.result) (sym equal) (c.plan_first_stage.ensures.answer accepts book s)
