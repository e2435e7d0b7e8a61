use Rattle.std.proofs.Common.{◌<◌, ◌∙◌, ℕ, Some, None, refl, sym, ap, subst}
use Rattle.basil_types.specs.Transaction.{TransactionValue}
use Rattle.node_steps.specs.Pens.{PenValue}
use Rattle.client_core.specs.Calls.{prepare_done}
use Rattle.client_core.specs.Preparing.{pursue_done}
use Rattle.client_core.specs.Seats.{self_at}
use Rattle.client_core.specs.Works.{CanPerform, WillDo}
use Rattle.client_core.proofs.HeldLaws.{got}
use Rattle.client_core.proofs.PreparingLaws.{formed_same_as, prepare_answers}
use Rattle.client_core.proofs.preparing.plan_prepare.Goals as goal

pub returns-in-Err-clause-answer : goal.returns-in-Err-clause-answer
returns-in-Err-clause-answer g c = λ accepts v h pen wanting.
    let me = self_at c.args.seat.now accepts (g.S.Signer.fixed c.args.pen.now) in
    let held = c.args.held.now in
    let x = c.index-place.result.now in
    let left = ap (λ (p : PenValue). p.left) pen ∙ sym c.left.ensures in
    (prepare_answers held me v c.args.slot x h (got held.slots.items c.args.slot x c.requires c.index-place.ensures) (Some c.in-Err.fault)
    (λ reads p keeps formed. c.in-Err.ensures.exact me v reads p keeps formed refl left wanting)).3

pub returns-in-Ok-plan_pursue-clause-answer : goal.returns-in-Ok-plan_pursue-clause-answer
returns-in-Ok-plan_pursue-clause-answer g c = λ accepts v h pen.
    let signing = g.S.Signer.fixed c.args.pen.now in
    let me = self_at c.args.seat.now accepts signing in
    let held = c.args.held.now in
    let x = c.index-place.result.now in
    let t = c.in-Ok-form.formed in
    let left = ap (λ (p : PenValue). p.left) pen ∙ sym c.left.ensures in
    let at = got held.slots.items c.args.slot x c.requires c.index-place.ensures in
    let a =
    prepare_answers held me v c.args.slot x h at None
    (λ reads p keeps formed. c.in-Ok.ensures.exact me v reads p keeps formed refl left) in
    let same = formed_same_as held me v c.args.slot x h at a.0 t a.2 (c.in-Ok-form.ensures.formed (a.0).reads (a.2).reads) in (
      prepare_done me v c.args.slot a.0,
      a.3,
      subst (λ (u : TransactionValue). WillDo signing held v c.in-Ok-plan_pursue.plan (pursue_done me v c.args.slot a.0 u)) same
          (c.in-Ok-plan_pursue.ensures.planned me held v a.0 h a.1 refl),
    )

pub returns-in-Ok-plan_pursue-clause-ready : goal.returns-in-Ok-plan_pursue-clause-ready
returns-in-Ok-plan_pursue-clause-ready g c =
    let left = g.S.Signer.left_of c.args.pen.now in
    let held = c.args.held.now in
    subst (λ (n : ℕ). CanPerform n left held c.in-Ok-plan_pursue.plan) c.size.ensures.size
    (c.in-Ok-plan_pursue.ensures.ready left held (subst (λ (n : ℕ). 0 < n) c.left.ensures c.in-Ok.ensures.left) c.requires)
