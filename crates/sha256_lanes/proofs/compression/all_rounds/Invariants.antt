use Rattle.std.proofs.Common.{ℕ, List, ◌<◌, ◌*◌}
use Rattle.sha2.specs.Sha256.{IsRoundsAt}
use Rattle.sha256_lanes.specs.Lanes.{HoldsBlock, block_of, state_of}
use Rattle.sha256_lanes.proofs.compression.all_rounds.Given as goal

abbrev pub invariant-schedule : goal.invariant-schedule
invariant-schedule l = (k : ℕ) (b : List ℕ) → k < 8 → HoldsBlock k l.words b
    → IsRoundsAt b (state_of k l.fn.start) (block_of k l.window) (state_of k l.v) (16 * l.turn)
