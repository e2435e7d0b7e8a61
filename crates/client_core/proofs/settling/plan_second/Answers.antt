use Rattle.std.proofs.Common.{◌≡◌, ◌∙◌, map, refl, sym, ap, subst}
use Rattle.std.specs.Prelude.{◌||◌, IfSome, Option, [], is_some}
use Rattle.basil_types.specs.declared.outbox.Outbox.{Outbox}
use Rattle.basil_types.specs.Setting.{Setting}
use Rattle.node_steps.specs.Framed.{framed}
use Rattle.client_recover.specs.Certifying.{settled}
use Rattle.client_recover.specs.Pursuits.{outcome, second_stage, to_log_shard}
use Rattle.client_core.specs.declared.work.Work.TheVariants.{Start}
use Rattle.client_steps.specs.Sending.{SendsSecond}
use Rattle.client_core.proofs.PlanLaws.{nothing_ready, ready_at}
use Rattle.client_core.proofs.SettleLaws.{settle_none, settle_over, settle_starts, start_planned, still_planned}
use Rattle.client_core.proofs.ShowingLaws.{shown_stands}
use Rattle.client_core.proofs.settling.plan_second.Goals as goal

pub returns-then-is_over-clause-planned : goal.returns-then-is_over-clause-planned
returns-then-is_over-clause-planned c = λ me held v s p h at is shows cluster.
    let f = c.args.formed.now in
    let over =
    ap (λ (k : Setting). is_some (outcome k p) || p.second) (cluster ∙ sym c.requires.cluster)
    ∙ sym (c.is_over.ensures p shows) ∙ c.if-is_over.true in
    still_planned me held v c.args.slot s p h at is c.plan_nothing.result (settle_over me.cluster p over)
    c.plan_nothing.ensures.work c.plan_nothing.ensures.messages

pub returns-in_ok-plan-in-Some-clause-planned : goal.returns-in_ok-plan-in-Some-clause-planned
returns-in_ok-plan-in-Some-clause-planned c = λ me held v s p h at is shows cluster.
    let f = c.args.formed.now in
    let equal : f.pursuit.cluster ≡ me.cluster = c.requires.cluster ∙ sym cluster in
    let going =
    ap (λ (k : Setting). is_some (outcome k p) || p.second) (sym equal)
    ∙ sym (c.is_over.ensures p shows) ∙ c.if-is_over.false in
    let some =
    subst (SendsSecond f.pursuit.cluster p) c.in-Some.is (c.in_ok-frames.ensures.sends p (shown_stands f p c.requires.none shows)) in
    start_planned me held v c.args.slot s p h at is c.in_ok-plan-in-Some.plan some.0 c.in-Some.out
    (settle_starts me.cluster p some.0 going
    (ap (λ (k : Setting). settled k p.transaction p.taken) (sym equal) ∙ some.1))
    c.in_ok-plan-in-Some.ensures.plan
    (some.2 ∙ ap (λ (k : Setting). map framed (to_log_shard k p.transaction (second_stage p some.0))) equal)

pub returns-in-None-clause-planned : goal.returns-in-None-clause-planned
returns-in-None-clause-planned c = λ me held v s p h at is shows cluster.
    let f = c.args.formed.now in
    let equal : f.pursuit.cluster ≡ me.cluster = c.requires.cluster ∙ sym cluster in
    let going =
    ap (λ (k : Setting). is_some (outcome k p) || p.second) (sym equal)
    ∙ sym (c.is_over.ensures p shows) ∙ c.if-is_over.false in
    let none =
    subst (SendsSecond f.pursuit.cluster p) c.in-None.is (c.in_ok-frames.ensures.sends p (shown_stands f p c.requires.none shows)) in
    still_planned me held v c.args.slot s p h at is c.plan_nothing-in-None.result
    (settle_none me.cluster p going (ap (λ (k : Setting). settled k p.transaction p.taken) (sym equal) ∙ none))
    c.plan_nothing-in-None.ensures.work c.plan_nothing-in-None.ensures.messages

pub returns-then-is_over-clause-ready : goal.returns-then-is_over-clause-ready
returns-then-is_over-clause-ready c = λ size left held within.
    nothing_ready size left held c.plan_nothing.result c.plan_nothing.ensures.work c.plan_nothing.ensures.signed
    (c.plan_nothing.ensures.counts size)

pub returns-in-None-clause-ready : goal.returns-in-None-clause-ready
returns-in-None-clause-ready c = λ size left held within.
    nothing_ready size left held c.plan_nothing-in-None.result c.plan_nothing-in-None.ensures.work c.plan_nothing-in-None.ensures.signed
    (c.plan_nothing-in-None.ensures.counts size)

pub returns-in_ok-plan-in-Some-clause-ready : goal.returns-in_ok-plan-in-Some-clause-ready
returns-in_ok-plan-in-Some-clause-ready c = λ size left held within.
    ready_at 0 (Start c.args.slot) c.in-Some.out c.in_ok-plan-in-Some.plan c.in_ok-plan-in-Some.ensures.plan size left held refl within
    (subst (λ (o : Option Outbox). IfSome o (λ (x : Outbox). x.signed.items ≡ [])) c.in-Some.is c.in_ok-frames.ensures.signed)
