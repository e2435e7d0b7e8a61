use Rattle.std.proofs.Common.{rules}
use Rattle.fallback_leader.proofs.election.elected.Goals as goal

pub returns-then-from-commits : goal.returns-then-from-commits
returns-then-from-commits c = search rules
