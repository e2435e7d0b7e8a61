use Rattle.std.proofs.Common.{ℕ, slice_index, bit_xor, ap, arith, ◌/◌, ◌<◌, ◌^◌}
use Rattle.std.proofs.lemmas.Simd.{Each1-get_or}
use Rattle.sha256_lanes.proofs.RotationLaws.{turned_two}
use Rattle.sha256_lanes.proofs.functions.small_sigma1.Goals as goal

pub returns : goal.returns
returns c k lt =
    let size = c.fits-x.0 in
    let x : slice_index c.args.x k < 2 ^ 32 = (Each1-get_or _ c.args.x k 0 (omega arith) c.fits-x.1).fits in
    rw (c.xor-2.ensures k lt, c.rotate_right-both.ensures k lt, c.xor.ensures k lt, c.rotate_right.ensures k lt, c.shift_right.ensures k lt)
    (ap (λ (y : ℕ). bit_xor y (slice_index c.args.x k / 2 ^ 10))
    (turned_two (slice_index c.args.x k) 17 2 (omega arith) (omega arith) (omega arith) x))
