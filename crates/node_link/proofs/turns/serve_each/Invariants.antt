-- So many connections were served.
use Rattle.std.proofs.Common.{◌≤◌, ◌-◌}
use Rattle.node_link.proofs.ServeLaws.{Serving}
use Rattle.node_link.proofs.turns.serve_each.Given as goal

abbrev pub invariant-loop-turn : goal.invariant-loop-turn
invariant-loop-turn g l =
    record {
      serving : Serving l.initial.replica l.replica (g.C.Clock.moments l.initial.clock) (g.C.Clock.moments l.clock)
          (g.L.Links.told l.initial.links) (g.L.Links.told l.links) l.cluster l.frames l.turn
          (g.L.Links.faults l.initial.links) (g.L.Links.faults l.links);
      turns : l.turn ≤ l.connections;
    }

abbrev pub decreases-loop-turn : goal.decreases-loop-turn
decreases-loop-turn g l = l.connections - l.turn
