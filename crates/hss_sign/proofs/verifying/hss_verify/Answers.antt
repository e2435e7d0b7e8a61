use Rattle.std.proofs.Common.{arith, rules, ◌≡◌}
use Rattle.hss_sign.specs.Verifying.{first_refusal, answer_of}
use Rattle.hss_sign.proofs.LevelLaws.{ok_valid}
use Rattle.hss_sign.proofs.verifying.hss_verify.Goals as goal

pub returns-clause-valid : goal.returns-clause-valid
returns-clause-valid c =
    let first : c.check_counts.result ≡ answer_of (first_refusal c.args.public.now c.args.message.now c.args.signature.now) =
    search rules in
    rw first (ok_valid c.args.public.now c.args.message.now c.args.signature.now
    (λ i. omega (arith, c.type_inv.public i)) (λ i. omega (arith, c.type_inv.signature i)))
