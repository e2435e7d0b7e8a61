use Rattle.std.proofs.Common.{ap}
use Rattle.std.specs.Prelude.{Some}
use Rattle.client_core.specs.declared.work.ClientPlan.{ClientPlan}
use Rattle.client_core.specs.Recovering.{again_done}
use Rattle.client_core.proofs.PlanLaws.{done_in_slot, ready_in_slot}
use Rattle.client_core.proofs.recovering.plan_held.Goals as goal

pub returns-clause-planned : goal.returns-clause-planned
returns-clause-planned c = λ me v h cluster.
    done_in_slot me.signing c.args.held.now v (again_done me v c.args.place) c.in_ok-plan.plan c.in_slot.result (Some c.args.place)
    c.in_slot.ensures (c.in_ok-plan.ensures.planned me v h cluster)

pub returns-clause-ready : goal.returns-clause-ready
returns-clause-ready c = λ size left.
    ready_in_slot size left c.args.held.now c.in_ok-plan.plan c.in_slot.result (Some c.args.place) c.in_slot.ensures
    (c.in_ok-plan.ensures.ready size left)

pub returns-clause-slot : goal.returns-clause-slot
returns-clause-slot c = ap (λ (p : ClientPlan). p.slot) c.in_slot.ensures
