use Rattle.std.proofs.Common.{eq-eqb, sym, subst}
use Rattle.frame_views.specs.Shown.{read_reply_of}
use Rattle.client_core.specs.Receiving.{IsPlannedFrame}
use Rattle.client_core.specs.Seats.{self_at}
use Rattle.client_core.proofs.FoundLaws.{there}
use Rattle.client_core.proofs.ShowingLaws.{slots_at}
use Rattle.client_core.proofs.ReplyingLaws.{reply_in_slot, reply_unknown}
use Rattle.client_core.proofs.reply_plans.plan_reply.Goals as goal

pub returns-in-Some-clause-answer : goal.returns-in-Some-clause-answer
returns-in-Some-clause-answer g c = λ signing v h.
    let me = self_at c.args.seat.now (g.V.Verifier.accepted c.args.keys.now) signing in
    let m = read_reply_of c.args.reply.now in
    let held = c.args.held.now in
    let i = c.in-Some.slot in
    let x = there held.slots.items i c.in-Some.ensures.within in
    let found = slots_at held.slots.items v.slots i x.0 h.slots x.1 in
    subst (IsPlannedFrame signing c.plan_reply_in.new.held v c.plan_reply_in.result)
    (sym (reply_in_slot me v m i found.0 (eq-eqb m.client me.number c.if-reply-seat.false) (sym (c.in-Some.ensures.found v h)) found.1))
    (c.plan_reply_in.ensures.answer signing v found.0 h found.1)

pub returns-in-None-clause-answer : goal.returns-in-None-clause-answer
returns-in-None-clause-answer g c = λ signing v h wanting.
    let me = self_at c.args.seat.now (g.V.Verifier.accepted c.args.keys.now) signing in
    let m = read_reply_of c.args.reply.now in
    reply_unknown me v m (eq-eqb m.client me.number c.if-reply-seat.false) (sym (c.in-None.ensures.found v h))
