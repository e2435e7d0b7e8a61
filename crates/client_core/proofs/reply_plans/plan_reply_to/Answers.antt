use Rattle.std.proofs.Common.{◌<◌, ◌∙◌, ℕ, length, sym, ap, subst}
use Rattle.std.specs.Prelude.{slice_get}
use Rattle.frame_views.specs.Shown.{read_reply_of}
use Rattle.node_steps.specs.Refusing.{unless}
use Rattle.client_core.specs.Clients.{SlotValue}
use Rattle.client_core.specs.Frames.{reply_taken, with_reply}
use Rattle.client_core.specs.Replying.{asked_fault, TellsAt}
use Rattle.client_core.specs.Seats.{self_at}
use Rattle.client_core.proofs.FoundLaws.{same_some}
use Rattle.client_core.proofs.HeldLaws.{got}
use Rattle.client_core.proofs.ReadingLaws.{shown_at}
use Rattle.client_core.proofs.ReplyingLaws.{reply_by_law}
use Rattle.client_core.proofs.reply_plans.plan_reply_to.Goals as goal

pub take_reply-requires-clause-read : goal.take_reply-requires-clause-read
take_reply-requires-clause-read g c =
    let slots = c.room_for_reply.new.self.slots.items in
    let x = c.index-place.result.now in
    let within : c.args.slot < length slots = subst (λ (n : ℕ). c.args.slot < n) (sym c.in-Ok.ensures.count) c.requires.held in
    (c.in-Ok.ensures.room x (got slots c.args.slot x within c.index-place.ensures)).0

pub returns-in-Ok-take_reply-clause-answer : goal.returns-in-Ok-take_reply-clause-answer
returns-in-Ok-take_reply-clause-answer g c = λ signing v s r h at at_r.
    let me = self_at c.args.seat.now (g.V.Verifier.accepted c.args.keys.now) signing in
    let m = read_reply_of c.args.reply.now in
    let i = c.args.slot in
    let held = c.room_for_reply.new.self in
    let x = c.index-place.result.now in
    let h_new = c.in-Ok.ensures.shown v h in
    let within : i < length held.slots.items = subst (λ (n : ℕ). i < n) (sym c.in-Ok.ensures.count) c.requires.held in
    let at_x = got held.slots.items i x within c.index-place.ensures in
    let shows = shown_at held v i x s h_new at_x at in
    let taken = c.in-Ok-take_reply.ensures s.reads r shows.reads at_r in
    let time = ap (λ (t : SlotValue). t.time) shows.value in (
      reply_taken v i s m r,
      reply_by_law me v i s m r
          ∙ ap (λ f. unless f (reply_taken v i s m r))
          (ap (λ (n : ℕ). asked_fault me.accepts me.cluster me.number n m r) time ∙ taken.0),
      c.plan_kept.ensures.planned signing held v s (with_reply m r) h_new within at c.in-Ok.ensures.room
          (same_some (slice_get held.slots.items i) (TellsAt c.args.read c.in-Ok-take_reply.kept (with_reply m r)) x at_x taken.1),
    )

pub returns-in-Err-take_reply-clause-answer : goal.returns-in-Err-take_reply-clause-answer
returns-in-Err-take_reply-clause-answer g c = λ signing v s r h at at_r wanting.
    let me = self_at c.args.seat.now (g.V.Verifier.accepted c.args.keys.now) signing in
    let m = read_reply_of c.args.reply.now in
    let i = c.args.slot in
    let held = c.room_for_reply.new.self in
    let x = c.index-place.result.now in
    let h_new = c.in-Ok.ensures.shown v h in
    let within : i < length held.slots.items = subst (λ (n : ℕ). i < n) (sym c.in-Ok.ensures.count) c.requires.held in
    let at_x = got held.slots.items i x within c.index-place.ensures in
    let shows = shown_at held v i x s h_new at_x at in
    let refused = c.in-Err-take_reply.ensures s.reads r shows.reads at_r wanting in
    let time = ap (λ (t : SlotValue). t.time) shows.value in
    reply_by_law me v i s m r
    ∙ ap (λ f. unless f (reply_taken v i s m r)) (ap (λ (n : ℕ). asked_fault me.accepts me.cluster me.number n m r) time ∙ refused)

pub returns-in-Ok-take_reply-clause-ready : goal.returns-in-Ok-take_reply-clause-ready
returns-in-Ok-take_reply-clause-ready g c = λ size left.
    let held = c.room_for_reply.new.self in
    let within : c.args.slot < length held.slots.items = subst (λ (n : ℕ). c.args.slot < n) (sym c.in-Ok.ensures.count) c.requires.held in
    c.plan_kept.ensures.ready size left held within c.in-Ok.ensures.room
