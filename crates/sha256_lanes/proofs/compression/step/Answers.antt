use Rattle.std.proofs.Common.{◌≡◌, ◌+◌, ◌*◌, ◌%◌, ◌∙◌, arith, refl, slice_index}
use Rattle.sha2.proofs.Schedule256.{IsRoundsAt_at, rounds_window, window_word_place}
use Rattle.sha256_lanes.specs.Lanes.{block_of, state_of}
use Rattle.sha256_lanes.proofs.compression.step.Goals as goal

pub returns : goal.returns
returns c k b h lt held =
    let t = 16 * c.args.turn + c.args.place in
    let at : t % 16 ≡ c.args.place = omega arith in
    let word = c.next_word-word.ensures in
    let next_w = block_of k c.next_word-word.new.window in
    let next_v = state_of k c.round.result in
    IsRoundsAt_at b h next_w next_v (t + 1) _ (omega arith)
    (rounds_window b h (block_of k c.args.window.now)
    (state_of k c.args.working) t _ (slice_index c.next_word-word.result k) next_w next_v (omega arith) (omega arith) held.0 held.1
    (word.value k lt ∙ window_word_place (block_of k c.args.window.now) c.args.turn c.args.place)
    (rw at (word.written k lt)) refl (c.round.ensures k lt))
