use Rattle.std.proofs.Common.{arith}
use Rattle.std.proofs.lemmas.Grind.{common_steps}
use Rattle.report_lines.proofs.lines.put_pairs.Goals as goal

pub returns-clause-appended : goal.returns-clause-appended
returns-clause-appended c = grind (arith, common_steps) steps 2000000
