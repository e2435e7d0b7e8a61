use Rattle.std.proofs.Common.{Some, length, sym, ap, ◌∙◌}
use Rattle.std.proofs.lemmas.Bool.{eqb-true}
use Rattle.line_fields.proofs.Unescaping.{all-read}
use Rattle.line_fields.proofs.fields.escapes.unescape.Goals as goal

pub returns : goal.returns
returns c =
    ap (λ t. Some t) c.from_vec.ensures
    ∙ all-read c.args.token.now c.bytes.rest.now c.bytes.bytes.items
    (eqb-true (length c.bytes.rest.now) 0 (sym c.is_empty.ensures ∙ c.bytes-test.false)) c.bytes.invariant
