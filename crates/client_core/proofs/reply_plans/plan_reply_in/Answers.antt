use Rattle.std.proofs.Common.{◌<◌, ◌∙◌, Option, length, sym, ap, subst}
use Rattle.std.specs.Prelude.{slice_get}
use Rattle.frame_views.specs.Shown.{read_reply_of}
use Rattle.client_core.specs.declared.held.Slot.{Slot}
use Rattle.client_core.specs.Clients.{AskedRead}
use Rattle.client_core.specs.Frames.{reply_by}
use Rattle.client_core.specs.Receiving.{IsPlannedFrame}
use Rattle.client_core.specs.Seats.{self_at}
use Rattle.client_core.specs.Slots.{is_of}
use Rattle.client_core.proofs.FoundLaws.{asked_places, find_got, find_none, position_within, same_some, there}
use Rattle.client_core.proofs.HeldLaws.{got}
use Rattle.client_core.proofs.ReadingLaws.{shown_at}
use Rattle.client_core.proofs.reply_plans.plan_reply_in.Goals as goal

pub plan_reply_to-requires-clause-read : goal.plan_reply_to-requires-clause-read
plan_reply_to-requires-clause-read g c =
    let slots = c.args.held.now.slots.items in
    let x = c.index-place.result.now in
    same_some (slice_get slots c.args.slot) (λ (y : Slot). c.in-Some.read < length y.reads.items) x
    (got slots c.args.slot x c.requires.held c.index-place.ensures) (position_within _ x.reads.items c.in-Some.read (sym c.in-Some.ensures))

pub returns-in-Some-clause-answer : goal.returns-in-Some-clause-answer
returns-in-Some-clause-answer g c = λ signing v s h at.
    let me = self_at c.args.seat.now (g.V.Verifier.accepted c.args.keys.now) signing in
    let m = read_reply_of c.args.reply.now in
    let held = c.args.held.now in
    let i = c.args.slot in
    let x = c.index-place.result.now in
    let shows = shown_at held v i x s h (got held.slots.items i x c.requires.held c.index-place.ensures) at in
    let place = sym (asked_places x.reads.items s.reads m.key shows.reads) ∙ sym c.in-Some.ensures in
    let r = there s.reads c.in-Some.read (position_within (is_of m.key) s.reads c.in-Some.read place) in
    subst (λ (o : Option AskedRead). IsPlannedFrame signing c.plan_reply_to.new.held v c.plan_reply_to.result (reply_by me v i s m o))
    (sym (find_got (is_of m.key) s.reads c.in-Some.read place ∙ r.1))
    (c.plan_reply_to.ensures.answer signing v s r.0 h at r.1)

pub returns-in-None-clause-answer : goal.returns-in-None-clause-answer
returns-in-None-clause-answer g c = λ signing v s h at wanting.
    let me = self_at c.args.seat.now (g.V.Verifier.accepted c.args.keys.now) signing in
    let m = read_reply_of c.args.reply.now in
    let held = c.args.held.now in
    let i = c.args.slot in
    let x = c.index-place.result.now in
    let shows = shown_at held v i x s h (got held.slots.items i x c.requires.held c.index-place.ensures) at in
    ap (reply_by me v i s m)
    (find_none (is_of m.key) s.reads (sym (asked_places x.reads.items s.reads m.key shows.reads) ∙ sym c.in-None.ensures))
