use Rattle.std.proofs.Common.{arith, sym}
use Rattle.std.proofs.lemmas.Grind.{common_steps}
use Rattle.line_fields.specs.Tokens.{tokens_after}
use Rattle.line_fields.proofs.Cutting.{split-Some, split-None}
use Rattle.line_fields.proofs.tokens.cut.Goals as goal

pub returns-in-Some : goal.returns-in-Some
unfolding tokens_after
returns-in-Some c = grind (arith, common_steps, split-Some c.args.line.now c.in-Some.at (sym c.in-Some.ensures))

pub returns-in-None : goal.returns-in-None
unfolding tokens_after
returns-in-None c = split-None _ (sym c.in-None.ensures)
