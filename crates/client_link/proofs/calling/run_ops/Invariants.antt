-- Of all reads and writes these are left.
use Rattle.std.proofs.Common.{length}
use Rattle.client_core.specs.Shown.{own}
use Rattle.client_link.specs.Running.{turns_of}
use Rattle.client_link.proofs.TurnLaws.{Turning}
use Rattle.client_link.proofs.calling.run_ops.Given as goal

abbrev pub invariant-loop-op : goal.invariant-loop-op
invariant-loop-op g l =
    Turning l.initial.client l.client l.file l.slot (turns_of (own l.initial.client) l.slot l.plan)
    (turns_of (own l.initial.client) l.slot l.left) (g.L.Links.told l.initial.links) (g.L.Links.told l.links) l.initial.errands l.errands
    (g.L.Links.faults l.initial.links) (g.L.Links.faults l.links)

abbrev pub decreases-loop-op : goal.decreases-loop-op
decreases-loop-op g l = length l.left
