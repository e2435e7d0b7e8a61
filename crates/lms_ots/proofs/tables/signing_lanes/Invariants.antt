use Rattle.std.proofs.Common.{◌≡◌, ℕ, ◌<◌, length}
use Rattle.lms_ots.specs.Sets.{chains_of}
use Rattle.lms_ots.specs.Chains.{leaf_of}
use Rattle.lms_ots.specs.Signatures.{signed_part}
use Rattle.sha256_lanes.specs.Chains.{lane_of}
use Rattle.lms_ots.specs.Lanes.{end_of_lane}
use Rattle.lms_ots.proofs.tables.signing_lanes.Given as goal

abbrev pub invariant-lanes : goal.invariant-lanes
invariant-lanes l = record {
  size : length l.lanes ≡ 72;
  numbered : (k : ℕ) → k < l.i → (lane_of l.lanes k).chain ≡ k;
  ends : (k : ℕ) → k < l.i → k < chains_of l.set →
      end_of_lane (leaf_of l.ident l.q) (lane_of l.lanes k) ≡ signed_part l.set (leaf_of l.ident l.q) l.seed l.string k;
}
