use Rattle.std.proofs.Common.{◌∙◌, map, refl, sym, ap}
use Rattle.basil_types.specs.Setting.{Setting}
use Rattle.client_recover.specs.Pursuits.{to_involved}
use Rattle.frame_views.specs.Values.{Recover}
use Rattle.node_steps.specs.Framed.{framed}
use Rattle.client_core.specs.declared.work.Work.TheVariants.{Nothing}
use Rattle.client_core.proofs.HeldLaws.{got}
use Rattle.client_core.proofs.PlanLaws.{nothing_ready, ready_at}
use Rattle.client_core.proofs.RecoverLaws.{again_planned, never_planned}
use Rattle.client_core.proofs.recovering.plan_again.Goals as goal

pub returns-in_ok-plan-in-Some-clause-planned : goal.returns-in_ok-plan-in-Some-clause-planned
returns-in_ok-plan-in-Some-clause-planned c = λ me v h cluster.
    let held = c.args.held.now in
    let x = c.index-slot.result.now in
    let t = c.transaction.result.now in
    let signature = c.signature.result.now in
    again_planned me held v c.args.place x h (got held.slots.items c.args.place x c.requires c.index-slot.ensures)
    c.in_ok-plan-in-Some.plan c.in_ok-out-in-Some.out c.in-Some.formed t signature c.in-Some.is
    c.transaction.ensures.value c.signature.ensures.value c.in_ok-plan-in-Some.ensures.plan
    (c.in_ok-out-in-Some.ensures.messages
    ∙ ap (λ (k : Setting). map framed (to_involved k t (Recover (record { transaction = t; signature = signature })))) (sym cluster))

pub returns-in_ok-plan-in-Some-clause-ready : goal.returns-in_ok-plan-in-Some-clause-ready
returns-in_ok-plan-in-Some-clause-ready c = λ size left.
    ready_at 0 Nothing c.in_ok-out-in-Some.out c.in_ok-plan-in-Some.plan c.in_ok-plan-in-Some.ensures.plan size left c.args.held.now refl tt
    c.in_ok-out-in-Some.ensures.signed

pub returns-in-None-clause-planned : goal.returns-in-None-clause-planned
returns-in-None-clause-planned c = λ me v h cluster.
    let held = c.args.held.now in
    let x = c.index-slot.result.now in
    never_planned me held v c.args.place x h (got held.slots.items c.args.place x c.requires c.index-slot.ensures)
    c.plan_nothing.result c.in-None.is c.plan_nothing.ensures.work c.plan_nothing.ensures.messages

pub returns-in-None-clause-ready : goal.returns-in-None-clause-ready
returns-in-None-clause-ready c = λ size left.
    nothing_ready size left c.args.held.now c.plan_nothing.result c.plan_nothing.ensures.work c.plan_nothing.ensures.signed
    (c.plan_nothing.ensures.counts size)
