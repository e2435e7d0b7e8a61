use Rattle.std.proofs.Common.{◌≡◌, ◌∙◌, rules, arith, take, drop, refl}
use Rattle.std.proofs.lemmas.Result.{err_from_is_err_and, IfErr-weaker}
use Rattle.hss_sign.proofs.LevelLaws.{refuses_here, goes_on, ends}
use Rattle.hss_sign.proofs.verifying.check_levels.Goals as goal

pub returns-in_err-size-clause-refused : goal.returns-in_err-size-clause-refused
returns-in_err-size-clause-refused c =
    let p = err_from_is_err_and c.from_residual.result c.from_residual.ensures.1 in
    let here = refuses_here c.args.below c.loop-level.level
    c.loop-level.key c.args.message.now c.loop-level.rest.now c.in_err-size.field-0.0 (omega arith) c.in_err-size.ensures.refused in
    rw (p.1, p.2) (c.loop-level.invariant ∙ here)

pub loop-level-preserved : goal.loop-level-preserved
loop-level-preserved c =
    let key_is : c.read_key-key.result ≡ take 56 (drop c.in_ok-size.size c.loop-level.rest.now) = search rules in
    let on = goes_on c.args.below c.loop-level.level c.loop-level.key c.args.message.now c.loop-level.rest.now c.in_ok-size.size
    (omega arith) c.in_ok-size.ensures.passed c.in_ok-size.ensures.size in
    c.loop-level.invariant ∙ on ∙ rw key_is refl

pub returns-clause-refused : goal.returns-clause-refused
returns-clause-refused c =
    let last = ends c.args.below c.loop-level.level c.loop-level.key c.args.message.now c.loop-level.rest.now (omega arith) (omega arith) in
    IfErr-weaker c.check_last.result _ _ (λ e refused. c.loop-level.invariant ∙ last ∙ refused) c.check_last.ensures.refused
