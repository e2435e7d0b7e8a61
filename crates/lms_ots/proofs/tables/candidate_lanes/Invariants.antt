use Rattle.std.proofs.Common.{◌≡◌, ℕ, ◌<◌, length}
use Rattle.lms_ots.specs.Sets.{chains_of}
use Rattle.lms_ots.specs.Chains.{Leaf}
use Rattle.lms_ots.specs.Signatures.{end_from}
use Rattle.sha256_lanes.specs.Chains.{lane_of}
use Rattle.lms_ots.specs.Lanes.{end_of_lane}
use Rattle.lms_ots.proofs.tables.candidate_lanes.Given as goal

abbrev pub invariant-lanes : goal.invariant-lanes
invariant-lanes l = record {
  size : length l.lanes ≡ 72;
  numbered : (k : ℕ) → k < l.i → (lane_of l.lanes k).chain ≡ k;
  ends : (leaf : Leaf) (k : ℕ) → k < l.i →
      k < chains_of l.set → end_of_lane leaf (lane_of l.lanes k) ≡ end_from l.set leaf l.string l.signature k;
}
