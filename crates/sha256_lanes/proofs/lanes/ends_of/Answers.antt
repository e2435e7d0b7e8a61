use Rattle.std.proofs.Common.{◌≡◌, ◌-◌, ◌∙◌, min, slice_index, arith}
use Rattle.sha2.specs.Sha256.{digest_bytes}
use Rattle.sha256_lanes.specs.Lanes.{state_of}
use Rattle.sha256_lanes.specs.Chains.{lane_of, steps}
use Rattle.sha256_lanes.proofs.ChainLaws.{one_place}
use Rattle.sha256_lanes.proofs.lanes.ends_of.Goals as goal

pub steps-init : goal.steps-init
unfolding steps
steps-init c k lt =
    let place = c.places_in-from.ensures k lt in
    let low = c.lowest-j.ensures k lt in
    let none : min c.lowest-j.result (slice_index c.lasts_in-to.result k) - slice_index c.places_in-from.result k ≡ 0 =
    omega (arith, place, low) in
    rw none (c.values_in-values.ensures k lt)

pub steps-preserved : goal.steps-preserved
steps-preserved c k lt =
    let head = digest_bytes c.args.head.now 5 in
    let i = slice_index c.chains_in-chains.result k in
    let here = c.splat-here.ensures k lt ∙ c.from.ensures in
    let stepped = rw here at (c.step_each-next.ensures k lt) in
    let moved = rw here at (c.kept_values-moved.ensures k lt) in
    rw moved (one_place head i c.steps.j
    (slice_index c.places_in-from.result k) (slice_index c.lasts_in-to.result k) (lane_of c.args.lanes.now k).value
    (state_of k c.steps.values) (state_of k c.step_each-next.result) (c.steps.invariant k lt) stepped)

pub returns : goal.returns
returns c k lt =
    let lane = lane_of c.args.lanes.now k in
    let last = c.lasts_in-to.ensures k lt in
    let high = c.highest-j-end.ensures k lt in
    let all : min c.steps.j (slice_index c.lasts_in-to.result k) ≡ lane.last = omega (arith, last, high) in
    rw (all, c.places_in-from.ensures k lt, c.chains_in-chains.ensures.chains k lt) at (c.steps.invariant k lt)
