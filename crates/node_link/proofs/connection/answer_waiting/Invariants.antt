-- Some of the envelopes that waited were answered, and the others wait.
use Rattle.std.proofs.Common.{length}
use Rattle.node_link.proofs.WaitingLaws.{Answering}
use Rattle.node_link.proofs.connection.answer_waiting.Given as goal

abbrev pub invariant-loop-envelope : goal.invariant-loop-envelope
invariant-loop-envelope g l =
    Answering l.initial.replica l.replica (g.C.Clock.moments l.initial.clock) (g.C.Clock.moments l.clock)
    (g.L.Links.told l.initial.links) (g.L.Links.told l.links) l.initial.reader l.reader l.initial.frames l.frames
    (g.L.Links.faults l.initial.links) (g.L.Links.faults l.links)

abbrev pub decreases-loop-envelope : goal.decreases-loop-envelope
decreases-loop-envelope g l = length l.reader.waiting
