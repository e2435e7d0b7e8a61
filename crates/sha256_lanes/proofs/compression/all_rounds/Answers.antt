use Rattle.std.proofs.Common.{◌≡◌, refl, ◌*◌, ◌∙◌, arith}
use Rattle.sha2.proofs.Schedule256.{IsWindow_first}
use Rattle.sha256_lanes.specs.Lanes.{block_of, state_of}
use Rattle.sha256_lanes.proofs.LaneLaws.{slice_index-block}
use Rattle.sha256_lanes.proofs.compression.all_rounds.Goals as goal

pub schedule-init : goal.schedule-init
schedule-init c k b lt block =
    let window = IsWindow_first b (block_of k c.args.words.now) refl (λ i low. slice_index-block c.args.words.now k i low ∙ block i low) in
    (window, c.first_sixteen_steps-v.ensures k b lt window)

pub schedule-preserved : goal.schedule-preserved
schedule-preserved c k b lt block =
    c.sixteen_steps-next.ensures k b (state_of k c.args.start) lt (c.schedule.invariant k b lt block)

pub returns : goal.returns
returns c k b lt block =
    let done : 16 * c.schedule.turn ≡ 64 = omega (arith, c.schedule.auto.turn-end (omega arith)) in
    rw done at (c.schedule.invariant k b lt block).1
