use Rattle.std.proofs.Common.{slice_index, w32, arith, ◌<◌, ◌^◌}
use Rattle.std.proofs.lemmas.Simd.{Each1-get_or}
use Rattle.sha256_lanes.proofs.ChoiceLaws.{ch_short}
use Rattle.sha256_lanes.proofs.functions.ch.Goals as goal

pub returns : goal.returns
returns c k h =
    let lx = c.fits-x.0 in
    let ly = c.fits-y.0 in
    let lz = c.fits-z.0 in
    let x : slice_index c.args.x k < 2 ^ 32 = (Each1-get_or _ c.args.x k 0 (omega arith) c.fits-x.1).fits in
    let y : slice_index c.args.y k < 2 ^ 32 = (Each1-get_or _ c.args.y k 0 (omega arith) c.fits-y.1).fits in
    let z : slice_index c.args.z k < 2 ^ 32 = (Each1-get_or _ c.args.z k 0 (omega arith) c.fits-z.1).fits in
    rw (c.xor-2.ensures k h, c.and.ensures k h, c.xor.ensures k h)
    (ch_short w32 (slice_index c.args.x k) (slice_index c.args.y k) (slice_index c.args.z k) x y z)
