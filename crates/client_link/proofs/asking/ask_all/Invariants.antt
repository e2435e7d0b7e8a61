-- At each turn the client sent something.
use Rattle.std.proofs.Common.{◌-◌}
use Rattle.client_link.proofs.AskLaws.{Turning}
use Rattle.client_link.proofs.asking.ask_all.Given as goal

abbrev pub invariant-loop-turn : goal.invariant-loop-turn
invariant-loop-turn g l =
    Turning l.initial.client l.client l.file (g.L.Links.told l.initial.links) (g.L.Links.told l.links) l.initial.errands l.errands
    (g.L.Links.faults l.initial.links) (g.L.Links.faults l.links) l.turn

abbrev pub decreases-loop-turn : goal.decreases-loop-turn
decreases-loop-turn g l = l.most - l.turn
