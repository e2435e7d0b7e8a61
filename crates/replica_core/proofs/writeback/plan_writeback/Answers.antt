use Rattle.std.proofs.Common.{ℕ, List, sym, ap, subst, ◌∙◌}
use Rattle.std.specs.Prelude.{is_some}
use Rattle.basil_types.specs.Shown.{transaction_of}
use Rattle.basil_types.specs.Transaction.{id}
use Rattle.frame_views.specs.Shown.{certificate_of}
use Rattle.node_steps.specs.Pens.{pen_value}
use Rattle.replica_core.specs.Known.{outcome_with}
use Rattle.replica_core.specs.KnownWorks.{perform_known}
use Rattle.replica_core.specs.Seats.{self_at, book_with}
use Rattle.replica_core.specs.Telling.{IsPlanned}
use Rattle.replica_core.specs.Writebacks.{end_unless_ended}
use Rattle.replica_core.proofs.Outcomes.{no_outcome, undecided_with}
use Rattle.replica_core.proofs.writeback.plan_writeback.Goals as goal

pub plan_end-requires : goal.plan_end-requires
plan_end-requires g c =
    let es = c.args.known.now.table.entries in
    let named = c.id-id.ensures in
    undecided_with es (id (transaction_of c.args.t))
    (no_outcome es (id (transaction_of c.args.t)) (sym (ap (λ (x : List ℕ). is_some (outcome_with es x)) named)
    ∙ sym c.is_ended.ensures ∙ c.if-is_ended.false))

pub returns-clause-answer : goal.returns-clause-answer
returns-clause-answer g c accepts book s =
    let es = c.args.known.now.table.entries in
    let t = transaction_of c.args.t in
    let signing = g.S.Signer.fixed c.args.pen.now in
    let b = book_with book es (pen_value (g.S.Signer.spent c.args.pen.now) (g.S.Signer.left_of c.args.pen.now)) in
    let named = c.id-id.ensures in
    let none = no_outcome es (id t) (sym (ap (λ (x : List ℕ). is_some (outcome_with es x)) named) ∙ sym c.is_ended.ensures
    ∙ c.if-is_ended.false) in
    subst (IsPlanned (perform_known signing) b c.plan_end.result)
    (sym (ap (end_unless_ended (self_at c.args.seat.now accepts signing) b t (certificate_of c.args.certificate.now)) none))
    (c.plan_end.ensures.answer accepts book s)
