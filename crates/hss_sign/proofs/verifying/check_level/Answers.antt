use Rattle.std.proofs.Common.{◌≡◌, ◌≤◌, ◌+◌, rules, true, is_some, length}
use Rattle.std.proofs.lemmas.Result.{err_from_is_err_and}
use Rattle.lms_sign.specs.Verifying.{set_in}
use Rattle.hss_sign.specs.Verifying.{size_under}
use Rattle.hss_sign.proofs.LevelLaws.{above_refused}
use Rattle.hss_sign.proofs.verifying.check_level.Goals as goal

pub returns-in_err-check_signature-clause-refused :
    goal.returns-in_err-check_signature-clause-refused
returns-in_err-check_signature-clause-refused c =
    let p = err_from_is_err_and c.from_residual.result c.from_residual.ensures.1 in
    let key = c.args.key.now in
    let rest = c.args.rest.now in
    let set : is_some (set_in key) ≡ true = search rules in
    let size : c.size-size.result ≡ size_under key = search rules in
    let room : c.size-size.result + 56 ≤ length rest = search rules in
    rw (p.1, p.2) (above_refused c.args.level
    key rest c.size-size.result c.in_err-check_signature.field-0.0 set size room c.in_err-check_signature.ensures.refused)
