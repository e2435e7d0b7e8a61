use Rattle.std.proofs.Common.{rules, sym, ap, ◌∙◌}
use Rattle.command_ends.specs.Outcome.{Refused}
use Rattle.lms_sign.specs.Verifying.{first_refusal}
use Rattle.signature_commands.specs.Signatures.{verified_with}
use Rattle.signature_commands.proofs.RefusalLaws.{refused}
use Rattle.signature_commands.proofs.signatures.verify.Goals as goal

pub returns-in-Ok : goal.returns-in-Ok
returns-in-Ok c = search rules

pub returns-in-Err : goal.returns-in-Err
returns-in-Err c =
    let public = c.as_slice.result.now in
    let signature = c.as_slice-2.result.now in
    ap Refused c.number.ensures
    ∙ refused (first_refusal public c.args.message.now signature) c.in-Err.refusal (sym c.in-Err.is ∙ c.verify.ensures.first)
    ∙ ap (λ p. verified_with (first_refusal p c.args.message.now signature)) c.as_slice.ensures
    ∙ ap (λ s. verified_with (first_refusal c.args.claim.now.public c.args.message.now s)) c.as_slice-2.ensures
