use Rattle.std.proofs.Common.{◌<◌, ℕ, refl, sym, subst}
use Rattle.client_core.specs.declared.work.Work.TheVariants.{Ask}
use Rattle.client_core.specs.Calls.{read_done}
use Rattle.client_core.specs.Seats.{self_at}
use Rattle.client_core.proofs.HeldLaws.{got}
use Rattle.client_core.proofs.PlanLaws.{does_so, ready_at}
use Rattle.client_core.proofs.ReadingLaws.{ask_changes, ask_same, ask_sends, shown_at}
use Rattle.client_core.proofs.reading.plan_ask.Goals as goal

pub returns-clause-planned : goal.returns-clause-planned
returns-clause-planned c = λ signing accepts v s h at.
    let me = self_at c.args.seat.now accepts signing in
    let held = c.args.held.now in
    let x = c.index-place.result.now in
    let slot = c.args.slot in
    let key = c.args.key.now in
    let asked = c.in_ok-asked.asked in
    let out = c.in_ok-out.out in
    let found = got held.slots.items slot x c.requires.held c.index-place.ensures in
    does_so 0 (Ask slot asked) out c.in_ok-plan.plan c.in_ok-plan.ensures.plan signing c.room_for_read.new.self v
    (read_done me v slot s key)
    (c.in_ok-room_for_read.ensures.shown v h, ask_changes me v slot s key asked at c.in_ok-asked.ensures) refl
    (ask_sends me v slot x s key out.messages.items (shown_at held v slot x s h found at) c.in_ok-out.ensures.messages)

pub returns-clause-ready : goal.returns-clause-ready
returns-clause-ready c = λ size left.
    ready_at 0 (Ask c.args.slot c.in_ok-asked.asked) c.in_ok-out.out c.in_ok-plan.plan c.in_ok-plan.ensures.plan size left
    c.room_for_read.new.self refl (
      subst (λ (n : ℕ). c.args.slot < n) (sym c.in_ok-room_for_read.ensures.count) c.requires.held,
      c.in_ok-room_for_read.ensures.room,
      ask_same c.in_ok-asked.asked c.args.key.now c.in_ok-asked.ensures,
    )
    c.in_ok-out.ensures.signed
