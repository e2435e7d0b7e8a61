use Rattle.std.proofs.Common.{sym, subst}
use Rattle.frame_views.specs.Shown.{message_of}
use Rattle.client_core.specs.Receiving.{IsPlannedFrame}
use Rattle.client_core.specs.Seats.{self_at}
use Rattle.client_core.proofs.FoundLaws.{there}
use Rattle.client_core.proofs.ShowingLaws.{slots_at}
use Rattle.client_core.proofs.TakingLaws.{named_found, named_missing}
use Rattle.client_core.proofs.taking.plan_named.Goals as goal

pub returns-in-Some-clause-answer : goal.returns-in-Some-clause-answer
returns-in-Some-clause-answer g c = λ signing v h.
    let me = self_at c.args.seat.now (g.V.Verifier.accepted c.args.keys.now) signing in
    let held = c.args.held.now in
    let i = c.in-Some.slot in
    let x = there held.slots.items i c.in-Some.ensures.within in
    let found = slots_at held.slots.items v.slots i x.0 h.slots x.1 in
    subst (IsPlannedFrame signing c.plan_take.new.held v c.plan_take.result)
    (sym (named_found me v c.args.named.now (message_of c.args.m.now) i found.0 (sym (c.in-Some.ensures.found v h)) found.1))
    (c.plan_take.ensures.answer signing v found.0 h found.1)

pub returns-in-None-clause-answer : goal.returns-in-None-clause-answer
returns-in-None-clause-answer g c = λ signing v h wanting.
    let me = self_at c.args.seat.now (g.V.Verifier.accepted c.args.keys.now) signing in
    named_missing me v c.args.named.now (message_of c.args.m.now) (sym (c.in-None.ensures.found v h))
