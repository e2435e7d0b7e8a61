use Rattle.std.proofs.Common.{◌∙◌}
use Rattle.line_fields.proofs.Digits.{parsed, digits-utf8}
use Rattle.line_fields.proofs.fields.numbers.value_of.Goals as goal

pub returns-in-Err : goal.returns-in-Err
returns-in-Err c = absurd (c.in-Err.ensures.cases.0 (digits-utf8 c.args.digits.now c.requires.digits))

pub returns-in-Ok : goal.returns-in-Ok
returns-in-Ok c =
    c.ok.ensures.value ∙ parsed c.args.digits.now c.parse.result c.requires.digits c.requires.some
    (rw c.in-Ok.ensures.cases.0 at c.parse.ensures.value.0)
