use Rattle.std.proofs.Common.{◌≡◌, length}
use Rattle.frame_views.specs.Items.{tallies_left}
use Rattle.frame_views.specs.Walks.{tallies_walk}
use Rattle.frame_views.proofs.signed.runs.TalliesRun.next.Given as goal

abbrev pub invariant-loop-item : goal.invariant-loop-item
invariant-loop-item l = tallies_walk l.self ≡ tallies_walk l.fn.self

abbrev pub decreases-loop-item : goal.decreases-loop-item
decreases-loop-item l = length (tallies_left l.self.tallies)
