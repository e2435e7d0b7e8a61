use Rattle.std.proofs.Common.{ℕ, List, sym, ap, ◌∙◌}
use Rattle.std.specs.Prelude.{option_map}
use Rattle.basil_types.specs.Shown.{transaction_of}
use Rattle.fallback_views.specs.Views.{raised}
use Rattle.frame_views.specs.Shown.{invoke_of}
use Rattle.txn_table.specs.Shown.{entry_of}
use Rattle.replica_core.specs.Known.{logged_with}
use Rattle.replica_core.specs.Logs.{logged_as}
use Rattle.replica_core.specs.LogWorks.{log_book_of, perform_log}
use Rattle.replica_core.specs.Replicas.{LoggedEntry}
use Rattle.replica_core.specs.Seats.{self_at}
use Rattle.replica_core.specs.Telling.{IsPlanned}
use Rattle.replica_core.proofs.Invoking.{invoked}
use Rattle.replica_core.proofs.invoke.plan_invoke.Goals as goal

pub returns-clause-answer : goal.returns-clause-answer
returns-clause-answer g c accepts book =
    let spent = g.S.Signer.spent c.args.pen.now in
    let left = g.S.Signer.left_of c.args.pen.now in
    let signing = g.S.Signer.fixed c.args.pen.now in
    let b = log_book_of book c.args.known.now c.args.logged.now spent left in
    let m = invoke_of c.args.m.now in
    let log = c.in-Some-find.log.now in
    let e = entry_of c.in-Some.entry.now in
    invoked (IsPlanned (perform_log signing) b c.plan_enter.result) (self_at c.args.seat.now accepts signing) c.args.from b m _ _ e
    (logged_as m.id log) (transaction_of c.view.result) c.raise-view.result
    (sym c.entry_with.ensures ∙ ap (option_map (λ e. entry_of e.now)) c.in-Some.is)
    (ap (λ (l : List LoggedEntry). logged_with l m.id) (sym c.make_room.ensures.entries) ∙ sym c.find.ensures
    ∙ ap (option_map (λ l. logged_as m.id l.now)) c.in-Some-find.is)
    c.view.ensures
    (c.raise-view.ensures.value
    ∙ ap (λ (v : List ℕ). raised c.args.seat.now.home.cluster.f v log.cell.current) (c.as_slice.ensures.value ∙ c.in_ok-views.ensures))
    (c.plan_enter.ensures.answer accepts b)
