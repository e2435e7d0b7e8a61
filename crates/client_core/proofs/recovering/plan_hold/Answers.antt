use Rattle.std.proofs.Common.{◌∙◌, map, refl, sym, ap, subst}
use Rattle.std.specs.Prelude.{Some}
use Rattle.basil_types.specs.Setting.{Setting}
use Rattle.client_recover.specs.Pursuits.{to_involved}
use Rattle.frame_views.specs.Values.{Recover}
use Rattle.node_steps.specs.Framed.{framed}
use Rattle.client_core.specs.declared.work.ClientPlan.{ClientPlan}
use Rattle.client_core.specs.declared.work.Work.TheVariants.{Hold}
use Rattle.client_core.specs.Clusters.{IsOf}
use Rattle.client_core.specs.Recovering.{hold_done}
use Rattle.client_core.proofs.HeldLaws.{same_held}
use Rattle.client_core.proofs.PlanLaws.{done_in_slot, ready_at, ready_in_slot}
use Rattle.client_core.proofs.RecoverLaws.{hold_planned}
use Rattle.client_core.proofs.ShowingLaws.{slots_count}
use Rattle.client_core.proofs.recovering.plan_hold.Goals as goal

pub returns-clause-planned : goal.returns-clause-planned
returns-clause-planned c = λ me v h cluster.
    let t = c.args.t.now in
    let signature = c.args.signature.now in
    let held = c.room_for_slot.new.self in
    let slot = Some c.in_ok-slot.slot in
    done_in_slot me.signing held v (hold_done me v t signature) c.in_ok-plan.plan c.in_slot.result slot c.in_slot.ensures
    (hold_planned me held v c.in_ok-recovered.recovered c.in_ok-out.out c.in_ok-plan.plan t signature
    (same_held c.args.held.now held v c.in_ok-slot.ensures.same h) c.in_ok-recovered.ensures.shown c.in_ok-plan.ensures.plan
    (c.in_ok-out.ensures.messages
    ∙ ap (λ (k : Setting). map framed (to_involved k t (Recover (record { transaction = t; signature = signature })))) (sym cluster)))

pub returns-clause-ready : goal.returns-clause-ready
returns-clause-ready c = λ size left.
    let held = c.room_for_slot.new.self in
    let slot = Some c.in_ok-slot.slot in
    ready_in_slot size left held c.in_ok-plan.plan c.in_slot.result slot c.in_slot.ensures
    (ready_at 0 (Hold c.in_ok-recovered.recovered) c.in_ok-out.out c.in_ok-plan.plan c.in_ok-plan.ensures.plan size left held refl (
      c.in_ok-slot.ensures.room,
      subst (λ (k : Setting). IsOf k c.in_ok-recovered.recovered.formed) (sym c.in_ok-slot.ensures.same.2)
          c.in_ok-recovered.ensures.cluster,
    )
    c.in_ok-out.ensures.signed)

pub returns-clause-slot : goal.returns-clause-slot
returns-clause-slot c = λ v h.
    ap (λ (p : ClientPlan). p.slot) c.in_slot.ensures
    ∙ ap Some (c.in_ok-slot.ensures.slot ∙ slots_count c.args.held.now.slots.items v.slots h.slots)
