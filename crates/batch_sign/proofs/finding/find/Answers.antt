use Rattle.std.proofs.Common.{rules}
use Rattle.batch_sign.proofs.finding.find.Goals as goal

pub returns-then-eq : goal.returns-then-eq
returns-then-eq c = search rules

pub collide-requires-clause-depth : goal.collide-requires-clause-depth
collide-requires-clause-depth c = search rules

pub returns : goal.returns
returns c = search rules
