use Rattle.std.proofs.Common.{◌≡◌, ◌≢◌, ℕ, ◌-◌, ◌%◌, ◌<◌, [], slice_index_or, length}
use Rattle.lms_ots.specs.Chains.{leaf_of}
use Rattle.sha256_lanes.specs.Chains.{lane_of}
use Rattle.lms_ots.specs.Lanes.{end_of_lane, HoldsEnds}
use Rattle.lms_ots.proofs.lanes.run_all.Given as goal

abbrev pub invariant-lanes : goal.invariant-lanes
invariant-lanes l = record {
  size : length l.ends ≡ 72;
  group : l.n % 8 ≢ 0 → HoldsEnds (leaf_of l.ident l.q) l.order (l.n - l.n % 8) l.group;
  written : (m : ℕ) → m < l.n → slice_index_or l.ends (lane_of l.order m).chain []
      ≡ end_of_lane (leaf_of l.ident l.q) (lane_of l.lanes (lane_of l.order m).chain);
}
