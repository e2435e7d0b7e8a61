use Rattle.std.proofs.Common.{arith}
use Rattle.std.proofs.lemmas.Grind.{common_steps}
use Rattle.load_maker.proofs.lines.put_writes.Goals as goal

pub returns : goal.returns
returns c = grind (arith, common_steps)
