use Rattle.std.proofs.Common.{false, cond, ltb, get_or, ap, ◌∙◌, arith, w32}
use lib.Lanes.{zip2, sel_l}
use Rattle.std.proofs.lemmas.Simd.{tops_compared, length-zip2, get_or-sel_l, get_or-zip2}
use Rattle.sha256_lanes.proofs.words.where_below.Goals as goal

pub returns : goal.returns
returns c k lt =
    let a = c.args.a in
    let b = c.args.b in
    let x = c.args.x in
    let y = c.args.y in
    let la = c.fits-a.0 in
    let lb = c.fits-b.0 in
    let lx = c.fits-x.0 in
    let ly = c.fits-y.0 in
    let long = length-zip2 ltb a b (omega arith) in
    let is = ap (λ ms. sel_l ms x y) (tops_compared w32 ltb a b) in
    ap (λ l. get_or l k 0) is ∙ get_or-sel_l (zip2 ltb a b) x y k 0 (omega arith) (omega arith) (omega arith)
    ∙ ap (λ t. cond t (get_or x k 0) (get_or y k 0)) (get_or-zip2 ltb a b k 0 0 false (omega arith) (omega arith))
