use Rattle.std.proofs.Common.{◌≡◌, List, Some, sym, ap, subst, ◌∙◌}
use Rattle.std.specs.Prelude.{option_map, unwrap_or}
use Rattle.basil_types.specs.Shown.{transaction_of}
use Rattle.txn_table.specs.Entries.{EntryValue}
use Rattle.replica_core.specs.Holding.{arrived_in}
use Rattle.replica_core.specs.Known.{logged_with}
use Rattle.replica_core.specs.Logs.{logged_as}
use Rattle.replica_core.specs.LogWorks.{log_book_of, perform_log}
use Rattle.replica_core.specs.Replicas.{LoggedEntry}
use Rattle.replica_core.specs.Seats.{self_at}
use Rattle.replica_core.specs.SecondStage.{reply_of}
use Rattle.replica_core.specs.Telling.{IsPlanned}
use Rattle.replica_core.proofs.second.plan_told.Goals as goal

pub returns-clause-answer : goal.returns-clause-answer
returns-clause-answer g c accepts book l h =
    let signing = g.S.Signer.fixed c.args.pen.now in
    let spent = g.S.Signer.spent c.args.pen.now in
    let left = g.S.Signer.left_of c.args.pen.now in
    let me = self_at c.args.seat.now accepts signing in
    let b = log_book_of book c.args.known.now c.args.logged.now spent left in
    let t = transaction_of c.args.t in
    let id = c.args.id.now in
    let arrives = c.in_ok-arrives.arrives in
    let entries = sym (c.in_ok-arrives.ensures.with_it ∙ ap (λ (l : List EntryValue). arrived_in l arrives) c.newcomer.ensures.entries) in
    let here = logged_as id c.in-Some.log.now in
    let found : logged_with c.args.logged.now.entries id ≡ Some here =
    ap (λ (ls : List LoggedEntry). logged_with ls id) (sym c.make_room.ensures.entries) ∙ sym c.find.ensures
    ∙ ap (option_map (λ x. logged_as id x.now)) c.in-Some.is in
    let same : here ≡ l = ap (λ o. unwrap_or o here) (sym found ∙ h) in
    subst (λ (x : LoggedEntry). IsPlanned (perform_log signing) b c.plan_reply.result (reply_of me c.args.from b t x)) same
    (c.plan_reply.ensures.answer accepts b t entries)
