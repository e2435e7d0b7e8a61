use Rattle.std.proofs.Common.{◌≡◌, ℕ, List, [], Option, Some, None, sym, ap, subst, ◌∙◌}
use Rattle.std.specs.Prelude.{option_map}
use Rattle.basil_types.specs.Shown.{transaction_of}
use Rattle.basil_types.specs.Transaction.{id}
use Rattle.decision_log.specs.Cells.{first_cell}
use Rattle.decision_log.specs.declared.cell.LogCell.{LogCell}
use Rattle.node_steps.specs.Pens.{pen_value}
use Rattle.node_steps.specs.Refusing.{unless}
use Rattle.txn_table.specs.Entries.{EntryValue}
use Rattle.replica_core.specs.Holding.{arrived_in}
use Rattle.replica_core.specs.Known.{logged_with}
use Rattle.replica_core.specs.LogFronts.{logged_at}
use Rattle.replica_core.specs.Logs.{logged_as}
use Rattle.replica_core.specs.LogWorks.{log_book_of, perform_log}
use Rattle.replica_core.specs.Replicas.{LoggedEntry}
use Rattle.replica_core.specs.Seats.{self_at}
use Rattle.replica_core.specs.SecondStage.{log_or_reply, reply_anew}
use Rattle.replica_core.specs.Signing.{exhausted}
use Rattle.replica_core.specs.Telling.{IsPlanned}
use Rattle.replica_core.proofs.second.plan_log.Goals as goal

pub returns-in-Some-clause-answer : goal.returns-in-Some-clause-answer
returns-in-Some-clause-answer g c accepts book =
    let signing = g.S.Signer.fixed c.args.pen.now in
    let spent = g.S.Signer.spent c.args.pen.now in
    let left = g.S.Signer.left_of c.args.pen.now in
    let me = self_at c.args.seat.now accepts signing in
    let b = log_book_of book c.args.known.now c.args.logged.now spent left in
    let t = transaction_of c.args.t in
    let old = c.args.logged.now.entries in
    let arrives = c.in_ok-arrives.arrives in
    let entries = sym (c.in_ok-arrives.ensures.with_it ∙ ap (λ (l : List EntryValue). arrived_in l arrives) c.newcomer.ensures.entries) in
    let named : c.id-id.result ≡ id t = c.id-id.ensures in
    let there = sym (ap (logged_with old) named)
    ∙ ap (λ (ls : List LoggedEntry). logged_with ls c.id-id.result) (sym c.make_room.ensures.entries) ∙ sym c.find.ensures in
    let found : logged_with old (id t) ≡ Some (logged_as c.id-id.result c.in-Some.log.now) = there
    ∙ ap (option_map (λ x. logged_as c.id-id.result x.now)) c.in-Some.is in
    subst
    (λ (o : Option LoggedEntry). IsPlanned (perform_log signing) b c.plan_reply.result
    (log_or_reply me c.args.from b t c.args.decision o)) (sym found)
    (c.plan_reply.ensures.answer accepts b t entries)

pub returns-in-None-clause-answer : goal.returns-in-None-clause-answer
returns-in-None-clause-answer g c accepts book =
    let signing = g.S.Signer.fixed c.args.pen.now in
    let spent = g.S.Signer.spent c.args.pen.now in
    let left = g.S.Signer.left_of c.args.pen.now in
    let me = self_at c.args.seat.now accepts signing in
    let b = log_book_of book c.args.known.now c.args.logged.now spent left in
    let t = transaction_of c.args.t in
    let old = c.args.logged.now.entries in
    let arrives = c.in_ok-arrives.arrives in
    let entries = sym (c.in_ok-arrives.ensures.with_it ∙ ap (λ (l : List EntryValue). arrived_in l arrives) c.newcomer.ensures.entries) in
    let named : c.id-id.result ≡ id t = c.id-id.ensures in
    let there = sym (ap (logged_with old) named)
    ∙ ap (λ (ls : List LoggedEntry). logged_with ls c.id-id.result) (sym c.make_room.ensures.entries) ∙ sym c.find.ensures in
    let found : logged_with old (id t) ≡ None = there ∙ ap (option_map (λ x. logged_as c.id-id.result x.now)) c.in-None.is in
    let r = c.plan_anew.result in
    subst (λ (o : Option LoggedEntry). IsPlanned (perform_log signing) b r (log_or_reply me c.args.from b t c.args.decision o)) (sym found)
    (subst
    (λ (i : List ℕ). IsPlanned (perform_log signing) b r
    (unless (exhausted 1 (pen_value spent left))
    (reply_anew me c.args.from b t (logged_at i (first_cell c.args.decision) [])))) named
    (subst
    (λ (k : LogCell). IsPlanned (perform_log signing) b r
    (unless (exhausted 1 (pen_value spent left))
    (reply_anew me c.args.from b t (logged_at c.id-id.result k [])))) c.log_first.ensures.value
    (c.plan_anew.ensures.answer accepts b t entries)))
