use Rattle.std.proofs.Common.{slice_index, arith, ◌<◌, ◌^◌}
use Rattle.std.proofs.lemmas.Simd.{Each1-get_or}
use Rattle.sha256_lanes.proofs.BlockLaws.{place_word}
use Rattle.sha256_lanes.proofs.steps.place_word.Goals as goal

pub returns : goal.returns
returns c k lt =
    let size = c.fits-first.0 in
    let first : slice_index c.args.first k < 2 ^ 32 = (Each1-get_or _ c.args.first k 0 (omega arith) c.fits-first.1).fits in
    rw (c.or-2.ensures k lt, c.or.ensures k lt, c.shift_left.ensures k lt, c.shift_left-2.ensures k lt, c.shift_right.ensures k lt)
    (place_word (slice_index c.args.chains k)
    (slice_index c.args.places k) (slice_index c.args.first k) (c.requires.chains k lt) (c.requires.places k lt) first)
