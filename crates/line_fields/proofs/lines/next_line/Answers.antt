use Rattle.std.proofs.Common.{◌∷◌, sym, ◌∙◌}
use Rattle.line_fields.specs.TextLines.{lines_of}
use Rattle.line_fields.proofs.LineCuts.{lines-Some, lines-None}
use Rattle.line_fields.proofs.lines.next_line.Goals as goal

pub returns-in-Some-clause-lines : goal.returns-in-Some-clause-lines
returns-in-Some-clause-lines c =
    lines-Some c.args.bytes.now c.in-Some.at (sym c.newline.ensures.first ∙ c.in-Some.is)
    ∙ (λ i. sym c.split_at.ensures.front i ∷ lines_of (sym c.split_at-in-Some.ensures.back i))

pub returns-in-None-clause-lines : goal.returns-in-None-clause-lines
returns-in-None-clause-lines c = lines-None c.args.bytes.now (sym c.newline.ensures.first ∙ c.in-None.is) c.requires
