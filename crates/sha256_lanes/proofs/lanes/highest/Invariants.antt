use Rattle.std.proofs.Common.{ℕ, ◌<◌, ◌≤◌}
use Rattle.sha256_lanes.specs.Chains.{lane_of}
use Rattle.sha256_lanes.proofs.lanes.highest.Given as goal

abbrev pub invariant-lanes : goal.invariant-lanes
invariant-lanes l = (i : ℕ) → i < l.k → (lane_of l.lanes i).last ≤ l.highest
