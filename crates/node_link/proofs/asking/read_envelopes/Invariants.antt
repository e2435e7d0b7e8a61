-- What was read so far was fed, up to the limit.
use Rattle.node_link.proofs.AskingLaws.{Hearing}
use Rattle.node_link.proofs.asking.read_envelopes.Given as goal

abbrev pub invariant-loop-left : goal.invariant-loop-left
invariant-loop-left g l =
    Hearing (g.L.Links.told l.initial.links) (g.L.Links.told l.links) l.fn.cluster l.reader l.left
    (g.L.Links.faults l.initial.links) (g.L.Links.faults l.links)

abbrev pub decreases-loop-left : goal.decreases-loop-left
decreases-loop-left g l = l.left
