use Rattle.std.proofs.Common.{◌≡◌, ℕ, ◌<◌, ◌-◌, min, slice_index}
use Rattle.sha2.specs.Sha256.{digest_bytes}
use Rattle.sha256_lanes.specs.Lanes.{state_of}
use Rattle.sha256_lanes.specs.Chains.{lane_of, steps}
use Rattle.sha256_lanes.proofs.lanes.ends_of.Given as goal

abbrev pub invariant-steps : goal.invariant-steps
invariant-steps l = (k : ℕ) → k < 8 → digest_bytes (state_of k l.values) 8
    ≡ steps (digest_bytes l.head 5) (slice_index l.chains k)
    (slice_index l.from k) (min l.j (slice_index l.to k) - slice_index l.from k) (lane_of l.lanes k).value
