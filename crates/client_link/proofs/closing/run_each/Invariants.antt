-- Of all stages these are left.
use Rattle.std.proofs.Common.{length}
use Rattle.client_core.specs.Shown.{own}
use Rattle.client_link.specs.Stages.{stage_turns}
use Rattle.client_link.proofs.TurnLaws.{Turning}
use Rattle.client_link.proofs.closing.run_each.Given as goal

abbrev pub invariant-loop-stage : goal.invariant-loop-stage
invariant-loop-stage g l =
    Turning l.initial.client l.client l.file l.slot (stage_turns (own l.initial.client) l.slot l.stages)
    (stage_turns (own l.initial.client) l.slot l.left) (g.L.Links.told l.initial.links) (g.L.Links.told l.links) l.initial.errands
    l.errands (g.L.Links.faults l.initial.links) (g.L.Links.faults l.links)

abbrev pub decreases-loop-stage : goal.decreases-loop-stage
decreases-loop-stage g l = length l.left
