use Rattle.schedule_replay.proofs.Rounds.{first, onward}
use Rattle.schedule_replay.proofs.course.Course.waiting.Goals as goal

pub loop-next-init : goal.loop-next-init
loop-next-init c = λ r h.
    first c.new-messages.result.items c.waiting_behind-next.result r.state c.new-messages.ensures.items
    (c.waiting_behind-next.ensures.behind r h)

pub loop-next-preserved : goal.loop-next-preserved
loop-next-preserved c = λ r h.
    onward c.loop-next.messages.items c.push.new.self.items c.in-Some.message c.loop-next.next c.waiting_behind-next-in-Some.result r.state
    (c.loop-next.invariant r h) c.in-Some.is c.in_ok-push.ensures.items (c.waiting_behind-next-in-Some.ensures.behind r h)
