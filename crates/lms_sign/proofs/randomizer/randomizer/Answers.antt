use Rattle.std.proofs.Common.{◌≡◌, ◌*◌, ◌+◌, ℕ, take, arith, sym, subst, ◌∙◌}
use Rattle.std.proofs.lemmas.List.{take_all}
use Rattle.lms_sign.specs.Randomizer.{randomizer_of, stream_bytes}
use Rattle.lms_sign.proofs.randomizer.randomizer.Goals as goal

pub returns : goal.returns
unfolding randomizer_of
returns c =
    let eight : c.loop-i.i ≡ 8 = omega arith in
    let all : take 32 c.loop-i.c ≡ c.loop-i.c = take_all 32 c.loop-i.c (omega arith) in
    let P : ℕ → Type 0 = λ k. take (4 * k) c.loop-i.c ≡ stream_bytes c.args.seed.now (c.args.q + 1) k in
    sym all ∙ subst P eight c.loop-i.invariant.written
