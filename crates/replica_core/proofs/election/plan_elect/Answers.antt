use Rattle.std.proofs.Common.{◌≡◌, ℕ, false, Option, not, ◌==◌, sym, ap, subst, ◌∙◌}
use Rattle.basil_types.specs.Shown.{transaction_of}
use Rattle.basil_types.specs.Transaction.{TransactionValue}
use Rattle.frame_views.specs.Shown.{elect_message_of}
use Rattle.node_steps.specs.Refusing.{unless_refused}
use Rattle.txn_meta.specs.Places.{leader_of}
use Rattle.replica_core.specs.declared.refusal.Refusal.{Refusal}
use Rattle.replica_core.specs.Elections.{collect}
use Rattle.replica_core.specs.Known.{known_of}
use Rattle.replica_core.specs.LeadWorks.{lead_book_of, perform_lead}
use Rattle.replica_core.specs.Leads.{kept_next}
use Rattle.replica_core.specs.Seats.{self_at, book_of}
use Rattle.replica_core.specs.Telling.{IsPlanned}
use Rattle.replica_core.proofs.Adopting.{led}
use Rattle.replica_core.proofs.election.plan_elect.Goals as goal

pub returns-clause-answer : goal.returns-clause-answer
returns-clause-answer g c accepts book =
    let spent = g.S.Signer.spent c.args.pen.now in
    let left = g.S.Signer.left_of c.args.pen.now in
    let signing = g.S.Signer.fixed c.args.pen.now in
    let seat = c.args.seat.now in
    let me = self_at seat accepts signing in
    let m = elect_message_of c.args.m.now in
    let b = lead_book_of book c.args.known.now c.args.leading.now spent left in
    let t = known_of c.args.known.now.table.entries (transaction_of c.args.m.now.transaction) in
    let text : transaction_of c.known_text-t.result ≡ t = c.known_text-t.ensures.text in
    let timed : c.time.result ≡ t.time = c.time.ensures.value ∙ ap (λ (u : TransactionValue). u.time) text in
    let leads : not (leader_of seat.home.cluster t.time m.view == seat.index) ≡ false =
    sym (ap (λ (n : ℕ). not (leader_of seat.home.cluster n m.view == seat.index)) timed) ∙ sym c.is_led_by_another.ensures
    ∙ c.if-is_led_by_another.false in
    let r = c.plan_collect.result in
    let performed = perform_lead signing (kept_next c.plan_collect.new.leading) in
    subst (λ (o : Option Refusal). IsPlanned performed b r (unless_refused o (collect me b t m)))
    (sym (led (leader_of seat.home.cluster t.time m.view == seat.index) leads))
    (subst (λ (u : TransactionValue). IsPlanned performed b r (collect me b u m)) text
    (c.plan_collect.ensures.answer accepts (book_of book c.args.known.now spent left)))
