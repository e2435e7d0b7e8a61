use Rattle.std.proofs.Common.{◌≡◌, ◌∙◌, ◌<◌, [], ap, List, ℕ, slice_index_or}
use Rattle.sha256_lanes.specs.Chains.{head_of, end_of_lane, lane_of}
use Rattle.sha256_lanes.proofs.ChainLaws.{one_step}
use Rattle.sha256_lanes.proofs.lanes.run_chains.Goals as goal

pub returns : goal.returns
returns c =
    let head = head_of c.args.ident.now c.args.q in
    let ends : (k : ℕ) → k < 8 → slice_index_or c.all_bytes.result k [] ≡ end_of_lane head (lane_of c.args.lanes.now k) = λ k lt.
    c.all_bytes.ensures k lt ∙ c.ends_of.ensures k lt
    ∙ ap (λ (h : List ℕ). end_of_lane h (lane_of c.args.lanes.now k)) c.head_words.ensures in
    record {
      ends = ends;
      one_step = λ k lt one. ends k lt ∙ one_step head (lane_of c.args.lanes.now k) one;
    }
