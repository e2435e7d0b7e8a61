use Rattle.std.proofs.Common.{◌≡◌, ◌∷◌, option_copied, ap, Some}
use Rattle.line_fields.specs.Tokens.{tokens_after}
use Rattle.line_fields.proofs.Cutting.{one-more}
use Rattle.line_fields.proofs.tokens.one.Goals as goal

pub returns-in-Some : goal.returns-in-Some
returns-in-Some c =
    let h : tokens_after (option_copied c.args.rest) ≡ c.in_ok-a.a.now ∷ tokens_after (option_copied c.in_ok-a.rest) = c.in_ok-a.ensures in
    let e : tokens_after (option_copied c.in_ok-a.rest) ≡ tokens_after (Some c.in-Some.field-0.now) =
    ap (λ r. tokens_after (option_copied r)) c.in-Some.is in
    cc (one-more c.in_ok-a.a.now c.in-Some.field-0.now)
