use Rattle.std.proofs.Common.{◌≡◌, ℕ, Option, Some, None, false, not, ◌==◌, sym, ap, subst, ◌∙◌, List}
use Rattle.std.specs.Prelude.{option_map}
use Rattle.basil_types.specs.Built.{or_else}
use Rattle.basil_types.specs.Shown.{transaction_of}
use Rattle.basil_types.specs.Transaction.{TransactionValue, id}
use Rattle.frame_views.specs.Shown.{decide_of}
use Rattle.node_steps.specs.Pens.{pen_value}
use Rattle.node_steps.specs.Refusing.{unless}
use Rattle.txn_meta.specs.Places.{leader_of}
use Rattle.replica_core.specs.declared.refusal.Refusal.{Refusal}
use Rattle.replica_core.specs.Elections.{adopt_done, askers_with}
use Rattle.replica_core.specs.Known.{known_of, logged_with}
use Rattle.replica_core.specs.LeadWorks.{adopts}
use Rattle.replica_core.specs.Logs.{logged_as}
use Rattle.replica_core.specs.LogWorks.{log_book_of, perform_log}
use Rattle.replica_core.specs.Replicas.{LoggedEntry}
use Rattle.replica_core.specs.Seats.{self_at}
use Rattle.replica_core.specs.Telling.{IsPlanned}
use Rattle.replica_core.proofs.Adopting.{led}
use Rattle.replica_core.proofs.election.plan_decide.Goals as goal

pub returns-in-Some-clause-answer : goal.returns-in-Some-clause-answer
returns-in-Some-clause-answer g c accepts book =
    let spent = g.S.Signer.spent c.args.pen.now in
    let left = g.S.Signer.left_of c.args.pen.now in
    let signing = g.S.Signer.fixed c.args.pen.now in
    let seat = c.args.seat.now in
    let me = self_at seat accepts signing in
    let m = decide_of c.args.m.now in
    let es = c.args.known.now.table.entries in
    let old = c.args.logged.now.entries in
    let b = log_book_of book c.args.known.now c.args.logged.now spent left in
    let mt = transaction_of c.args.m.now.transaction in
    let t = known_of es mt in
    let l = logged_with old (id mt) in
    let timed : c.time-time.result ≡ t.time = c.time-time.ensures.value ∙ ap (λ (u : TransactionValue). u.time) c.known_text.ensures.text in
    let leads : not (leader_of seat.home.cluster t.time m.view == m.replica) ≡ false =
    sym (ap (λ (n : ℕ). not (leader_of seat.home.cluster n m.view == m.replica)) timed) ∙ sym c.is_led_by_another.ensures
    ∙ c.if-is_led_by_another.false in
    let named : c.id-id.result ≡ id mt = c.id-id.ensures in
    let log = c.in-Some.log.now in
    let found : logged_with old (id mt) ≡ Some (logged_as c.id-id.result log) =
    sym (ap (logged_with old) named) ∙ ap (λ (ls : List LoggedEntry). logged_with ls c.id-id.result) (sym c.make_room.ensures.entries)
    ∙ sym c.find.ensures
    ∙ ap (option_map (λ x. logged_as c.id-id.result x.now)) c.in-Some.is in
    subst
    (λ (o : Option Refusal). IsPlanned (perform_log signing) b c.plan_adopt.result
    (unless (or_else o (adopts me m l (pen_value spent left))) (adopt_done me b t m l)))
    (sym (led (leader_of seat.home.cluster t.time m.view == m.replica) leads))
    (c.plan_adopt.ensures.answer accepts b l (ap (option_map (λ (x : LoggedEntry). x.cell)) found)
    (ap askers_with found ∙ sym c.as_slice.ensures.value))

pub returns-in-None-clause-answer : goal.returns-in-None-clause-answer
returns-in-None-clause-answer g c accepts book =
    let spent = g.S.Signer.spent c.args.pen.now in
    let left = g.S.Signer.left_of c.args.pen.now in
    let signing = g.S.Signer.fixed c.args.pen.now in
    let seat = c.args.seat.now in
    let me = self_at seat accepts signing in
    let m = decide_of c.args.m.now in
    let es = c.args.known.now.table.entries in
    let old = c.args.logged.now.entries in
    let b = log_book_of book c.args.known.now c.args.logged.now spent left in
    let mt = transaction_of c.args.m.now.transaction in
    let t = known_of es mt in
    let l = logged_with old (id mt) in
    let timed : c.time-time.result ≡ t.time = c.time-time.ensures.value ∙ ap (λ (u : TransactionValue). u.time) c.known_text.ensures.text in
    let leads : not (leader_of seat.home.cluster t.time m.view == m.replica) ≡ false =
    sym (ap (λ (n : ℕ). not (leader_of seat.home.cluster n m.view == m.replica)) timed) ∙ sym c.is_led_by_another.ensures
    ∙ c.if-is_led_by_another.false in
    let named : c.id-id.result ≡ id mt = c.id-id.ensures in
    let found : logged_with old (id mt) ≡ None =
    sym (ap (logged_with old) named) ∙ ap (λ (ls : List LoggedEntry). logged_with ls c.id-id.result) (sym c.make_room.ensures.entries)
    ∙ sym c.find.ensures
    ∙ ap (option_map (λ x. logged_as c.id-id.result x.now)) c.in-None.is in
    subst
    (λ (o : Option Refusal). IsPlanned (perform_log signing) b c.plan_adopt-in-None.result
    (unless (or_else o (adopts me m l (pen_value spent left))) (adopt_done me b t m l)))
    (sym (led (leader_of seat.home.cluster t.time m.view == m.replica) leads))
    (c.plan_adopt-in-None.ensures.answer accepts b l (ap (option_map (λ (x : LoggedEntry). x.cell)) found) (ap askers_with found))
