-- What was read so far was answered.
use Rattle.node_link.proofs.TalkingLaws.{Talking, room_of}
use Rattle.node_link.proofs.connection.talk.Given as goal

abbrev pub invariant-loop-alloc : goal.invariant-loop-alloc
invariant-loop-alloc g l =
    Talking l.initial.replica l.replica (g.C.Clock.moments l.initial.clock) (g.C.Clock.moments l.clock)
    (g.L.Links.told l.initial.links) (g.L.Links.told l.links) l.fn.cluster l.reader l.initial.frames l.frames
    (g.L.Links.faults l.initial.links) (g.L.Links.faults l.links)

abbrev pub decreases-loop-alloc : goal.decreases-loop-alloc
decreases-loop-alloc g l = room_of l.reader
