use Rattle.std.proofs.Common.{slice_index, arith, ◌<◌, ◌^◌}
use Rattle.std.proofs.lemmas.Simd.{Each1-get_or}
use Rattle.sha256_lanes.proofs.RotationLaws.{turned_three}
use Rattle.sha256_lanes.proofs.functions.big_sigma1.Goals as goal

pub returns : goal.returns
returns c k lt =
    let size = c.fits-x.0 in
    let x : slice_index c.args.x k < 2 ^ 32 = (Each1-get_or _ c.args.x k 0 (omega arith) c.fits-x.1).fits in
    rw (
      c.rotate_right-3.ensures k lt,
      c.xor.ensures k lt,
      c.rotate_right-2.ensures k lt,
      c.xor-far.ensures k lt,
      c.rotate_right.ensures k lt,
    )
    (turned_three (slice_index c.args.x k) 6 5 14 (omega arith) (omega arith) (omega arith) (omega arith) x)
