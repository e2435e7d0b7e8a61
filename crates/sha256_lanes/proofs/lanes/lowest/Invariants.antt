use Rattle.std.proofs.Common.{ℕ, ◌<◌, ◌≤◌}
use Rattle.sha256_lanes.specs.Chains.{lane_of}
use Rattle.sha256_lanes.proofs.lanes.lowest.Given as goal

abbrev pub invariant-lanes : goal.invariant-lanes
invariant-lanes l = (i : ℕ) → i < l.k → l.lowest ≤ (lane_of l.lanes i).place
