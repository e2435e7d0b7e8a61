use Rattle.std.proofs.Common.{◌≡◌, ◌∙◌, false, true, map, refl, sym, ap, subst}
use Rattle.std.specs.Prelude.{IfSome, Option, [], is_some}
use Rattle.basil_types.specs.declared.outbox.Outbox.{Outbox}
use Rattle.basil_types.specs.Setting.{Setting}
use Rattle.node_steps.specs.Framed.{framed}
use Rattle.client_recover.specs.Pursuits.{invoke_message, outcome, to_log_shard}
use Rattle.client_core.specs.declared.work.Work.TheVariants.{Nothing}
use Rattle.client_core.specs.Calls.{invoke_done}
use Rattle.client_core.specs.Clients.{quiet}
use Rattle.client_core.specs.Invoking.{SendsInvoke}
use Rattle.client_core.proofs.InvokeLaws.{invoke_logged, invoke_over, invoke_planned}
use Rattle.client_core.proofs.PlanLaws.{nothing_ready, ready_at}
use Rattle.client_core.proofs.ReadingLaws.{nothing_done}
use Rattle.client_core.proofs.ShowingLaws.{shown_stands}
use Rattle.client_core.proofs.invoking.plan_fallback.Goals as goal

pub returns-then-has_outcome-clause-answer : goal.returns-then-has_outcome-clause-answer
returns-then-has_outcome-clause-answer c = λ me held v p h shows cluster.
    let over =
    ap (λ (k : Setting). is_some (outcome k p)) (cluster ∙ sym c.requires.cluster)
    ∙ sym (c.has_outcome.ensures p shows) ∙ c.if-has_outcome.true in (
      quiet v,
      invoke_over me v p over,
      nothing_done me.signing held v c.plan_nothing.result c.plan_nothing.ensures.work c.plan_nothing.ensures.messages h,
    )

pub returns-in_ok-plan-in-Some-clause-answer : goal.returns-in_ok-plan-in-Some-clause-answer
returns-in_ok-plan-in-Some-clause-answer c = λ me held v p h shows cluster.
    let f = c.args.formed.now in
    let equal : f.pursuit.cluster ≡ me.cluster = c.requires.cluster ∙ sym cluster in
    let going =
    ap (λ (k : Setting). is_some (outcome k p)) (sym equal)
    ∙ sym (c.has_outcome.ensures p shows) ∙ c.if-has_outcome.false in
    let some =
    subst (SendsInvoke f.pursuit.cluster p) c.in-Some.is (c.in_ok-frames.ensures.sends p (shown_stands f p c.requires.none shows)) in (
      invoke_done me v p,
      invoke_logged me v p false going some.0,
      invoke_planned me held v p c.in-Some.out c.in_ok-plan-in-Some.plan h c.in_ok-plan-in-Some.ensures.plan
          (some.1 ∙ ap (λ (k : Setting). map framed (to_log_shard k p.transaction (invoke_message k p))) equal),
    )

pub returns-in-None-clause-answer : goal.returns-in-None-clause-answer
returns-in-None-clause-answer c = λ me held v p h shows cluster wanting.
    let f = c.args.formed.now in
    let equal : f.pursuit.cluster ≡ me.cluster = c.requires.cluster ∙ sym cluster in
    let going =
    ap (λ (k : Setting). is_some (outcome k p)) (sym equal)
    ∙ sym (c.has_outcome.ensures p shows) ∙ c.if-has_outcome.false in
    invoke_logged me v p true going
    (subst (SendsInvoke f.pursuit.cluster p) c.in-None.is (c.in_ok-frames.ensures.sends p (shown_stands f p c.requires.none shows)))

pub returns-then-has_outcome-clause-ready : goal.returns-then-has_outcome-clause-ready
returns-then-has_outcome-clause-ready c = λ size left held.
    nothing_ready size left held c.plan_nothing.result c.plan_nothing.ensures.work c.plan_nothing.ensures.signed
    (c.plan_nothing.ensures.counts size)

pub returns-in_ok-plan-in-Some-clause-ready : goal.returns-in_ok-plan-in-Some-clause-ready
returns-in_ok-plan-in-Some-clause-ready c = λ size left held.
    ready_at 0 Nothing c.in-Some.out c.in_ok-plan-in-Some.plan c.in_ok-plan-in-Some.ensures.plan size left held refl tt
    (subst (λ (o : Option Outbox). IfSome o (λ (x : Outbox). x.signed.items ≡ [])) c.in-Some.is c.in_ok-frames.ensures.signed)
