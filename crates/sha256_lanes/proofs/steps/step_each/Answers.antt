use Rattle.std.proofs.Common.{◌∙◌, sym, refl, ap, List, ℕ, ◌++◌, slice_index}
use Rattle.sha2.specs.Sha256.{digest_bytes}
use Rattle.sha256_lanes.specs.Lanes.{state_of, padding_55}
use Rattle.sha256_lanes.specs.Chains.{message_of, step_of}
use Rattle.sha256_lanes.proofs.BlockLaws.{one_block}
use Rattle.sha256_lanes.proofs.steps.step_each.Goals as goal

pub returns : goal.returns
unfolding step_of digest_bytes
returns c k lt =
    let m = message_of (digest_bytes c.args.head.now 5)
    (slice_index c.args.chains k) (slice_index c.args.places k) (digest_bytes (state_of k c.args.values) 8) in
    ap (λ (h : List ℕ). digest_bytes h 8) (c.compress.ensures k (m ++ padding_55) lt (c.step_blocks.ensures k lt)) ∙ sym (one_block m refl)
