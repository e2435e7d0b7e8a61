use Rattle.std.proofs.Common.{◌≡◌, ◌∙◌, Some, None, sym, ap, refl}
use Rattle.std.specs.Prelude.{Option, option_map}
use Rattle.basil_types.specs.Transaction.{id}
use Rattle.node_steps.specs.Refusing.{unless}
use Rattle.txn_meta.specs.Form.{form_fault}
use Rattle.txn_meta.specs.declared.form.FormFault.{FormFault}
use Rattle.client_steps.specs.declared.fault.CallFault.TheVariants.{BadTransaction}
use Rattle.client_core.specs.Calls.{recover_by}
use Rattle.client_core.specs.Recovering.{again_done, hold_done}
use Rattle.client_core.specs.Seats.{self_at}
use Rattle.client_core.specs.Slots.{slot_of_id}
use Rattle.client_core.proofs.RecoverLaws.{recover_answer, recovered_held}
use Rattle.client_core.proofs.recovering.plan_recover.Goals as goal

pub returns-in-Err-clause-answer : goal.returns-in-Err-clause-answer
returns-in-Err-clause-answer c = λ signing accepts v h wanting.
    let me = self_at c.args.seat.now accepts signing in
    let t = c.args.t.now in
    let signature = c.args.signature.now in
    ap (λ (f : Option FormFault). unless (option_map BadTransaction f) (recover_by me v t signature (slot_of_id v (id t))))
    (ap form_fault (sym c.view.ensures.value) ∙ c.in-Err.ensures.refused)

pub returns-in-Ok-plan_held-clause-answer : goal.returns-in-Ok-plan_held-clause-answer
returns-in-Ok-plan_held-clause-answer c = λ signing accepts v h.
    let me = self_at c.args.seat.now accepts signing in
    let t = c.args.t.now in
    let place = c.in-Some.place in
    let good = ap form_fault (sym c.view.ensures.value) ∙ c.in-Ok.ensures.good in
    let named : c.id-id.result ≡ id t =
    c.id-id.ensures ∙ ap id c.view-2.ensures.value in
    let at : slot_of_id v (id t) ≡ Some place = ap (slot_of_id v) (sym named) ∙ sym (c.in-Some.ensures.found v h) in (
      again_done me v place,
      recover_answer me v t c.args.signature.now (Some place) good at,
      c.in-Ok-plan_held.ensures.planned me v h refl,
    )

pub returns-in-Ok-plan_held-clause-slot : goal.returns-in-Ok-plan_held-clause-slot
returns-in-Ok-plan_held-clause-slot c = λ v h.
    let t = c.args.t.now in
    let place = c.in-Some.place in
    let named : c.id-id.result ≡ id t =
    c.id-id.ensures ∙ ap id c.view-2.ensures.value in
    let at : slot_of_id v (id t) ≡ Some place = ap (slot_of_id v) (sym named) ∙ sym (c.in-Some.ensures.found v h) in
    c.in-Ok-plan_held.ensures.slot ∙ ap Some (recovered_held v t (Some place) at)

pub returns-in-Ok-plan_hold-clause-answer : goal.returns-in-Ok-plan_hold-clause-answer
returns-in-Ok-plan_hold-clause-answer c = λ signing accepts v h.
    let me = self_at c.args.seat.now accepts signing in
    let t = c.args.t.now in
    let good = ap form_fault (sym c.view.ensures.value) ∙ c.in-Ok.ensures.good in
    let named : c.id-id.result ≡ id t =
    c.id-id.ensures ∙ ap id c.view-2.ensures.value in
    let at : slot_of_id v (id t) ≡ None = ap (slot_of_id v) (sym named) ∙ sym (c.in-None.ensures.found v h) in (
      hold_done me v t c.args.signature.now,
      recover_answer me v t c.args.signature.now None good at,
      c.in-Ok-plan_hold.ensures.planned me v h refl,
    )

pub returns-in-Ok-plan_hold-clause-slot : goal.returns-in-Ok-plan_hold-clause-slot
returns-in-Ok-plan_hold-clause-slot c = λ v h.
    let t = c.args.t.now in
    let named : c.id-id.result ≡ id t =
    c.id-id.ensures ∙ ap id c.view-2.ensures.value in
    let at : slot_of_id v (id t) ≡ None = ap (slot_of_id v) (sym named) ∙ sym (c.in-None.ensures.found v h) in
    c.in-Ok-plan_hold.ensures.slot v h ∙ ap Some (recovered_held v t None at)
