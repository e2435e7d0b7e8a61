use Rattle.std.proofs.Common.{arith}
use Rattle.std.proofs.lemmas.Grind.{common_steps}
use Rattle.vote_tally.proofs.votes.Counts.with.Goals as goal

pub returns-else-self : goal.returns-else-self
returns-else-self c = grind (arith, common_steps) steps 2000000
