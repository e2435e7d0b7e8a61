use Rattle.std.proofs.Common.{slice_index, arith, ◌<◌, ◌^◌}
use Rattle.std.proofs.lemmas.Simd.{Each1-get_or}
use Rattle.sha256_lanes.proofs.BlockLaws.{shifted_word}
use Rattle.sha256_lanes.proofs.steps.shifted_word.Goals as goal

pub returns : goal.returns
returns c k lt =
    let size = c.fits-word.0 in
    let size2 = c.fits-next.0 in
    let word : slice_index c.args.word k < 2 ^ 32 = (Each1-get_or _ c.args.word k 0 (omega arith) c.fits-word.1).fits in
    let next : slice_index c.args.next k < 2 ^ 32 = (Each1-get_or _ c.args.next k 0 (omega arith) c.fits-next.1).fits in
    rw (c.or.ensures k lt, c.shift_left.ensures k lt, c.shift_right.ensures k lt)
    (shifted_word (slice_index c.args.word k) (slice_index c.args.next k) word next)
