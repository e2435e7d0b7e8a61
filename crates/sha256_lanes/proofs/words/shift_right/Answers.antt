use Rattle.std.proofs.Common.{◌∙◌, refl, arith, replicate}
use Rattle.std.proofs.lemmas.Simd.{get_or-zip2, get_or-replicate}
use Rattle.sha256_lanes.proofs.words.shift_right.Goals as goal

pub returns : goal.returns
returns c k h =
    let len = c.fits-x.0 in
    get_or-zip2 _ c.args.x (replicate 8 c.args.by) k 0 0 0 (omega arith) h
    ∙ rw (get_or-replicate 8 k c.args.by 0 h) refl
