use Rattle.client_core.specs.Clients.{quiet}
use Rattle.client_core.specs.Calls.{read_done}
use Rattle.client_core.specs.Seats.{self_at}
use Rattle.client_steps.specs.declared.steps.ReadStep.TheVariants.{Refused, Known, Asks}
use Rattle.client_core.proofs.HeldLaws.{got, read_answers}
use Rattle.client_core.proofs.PlanLaws.{nothing_ready}
use Rattle.client_core.proofs.ReadingLaws.{nothing_done}
use Rattle.client_core.proofs.reading.plan_read.Goals as goal

pub returns-in-Refused-clause-answer : goal.returns-in-Refused-clause-answer
returns-in-Refused-clause-answer c = λ signing accepts v h wanting.
    let me = self_at c.args.seat.now accepts signing in
    let x = c.index-place.result.now in
    (read_answers c.args.held.now v c.args.slot x h (got c.args.held.now.slots.items c.args.slot x c.requires c.index-place.ensures)
    me c.args.key.now (Refused c.in-Refused.fault) (c.in-Refused.ensures.exact me v c.args.slot)).2

pub returns-in-Known-clause-answer : goal.returns-in-Known-clause-answer
returns-in-Known-clause-answer c = λ signing accepts v h.
    let me = self_at c.args.seat.now accepts signing in
    let x = c.index-place.result.now in
    let a = read_answers c.args.held.now v c.args.slot x h (got c.args.held.now.slots.items c.args.slot x c.requires c.index-place.ensures)
    me c.args.key.now Known (c.in-Known.ensures.exact me v c.args.slot) in (
      quiet v,
      a.2,
      nothing_done signing c.args.held.now v c.plan_nothing.result c.plan_nothing.ensures.work c.plan_nothing.ensures.messages h,
    )

pub returns-in-Ok-clause-answer : goal.returns-in-Ok-clause-answer
returns-in-Ok-clause-answer c = λ signing accepts v h.
    let me = self_at c.args.seat.now accepts signing in
    let x = c.index-place.result.now in
    let a = read_answers c.args.held.now v c.args.slot x h (got c.args.held.now.slots.items c.args.slot x c.requires c.index-place.ensures)
    me c.args.key.now Asks (c.in-Asks.ensures.exact me v c.args.slot) in
    (read_done me v c.args.slot a.0 c.args.key.now, a.2, c.in-Ok.ensures.planned signing accepts v a.0 h a.1)

pub returns-in-Known-clause-ready : goal.returns-in-Known-clause-ready
returns-in-Known-clause-ready c = λ size left.
    nothing_ready size left c.args.held.now c.plan_nothing.result c.plan_nothing.ensures.work c.plan_nothing.ensures.signed
    (c.plan_nothing.ensures.counts size)
