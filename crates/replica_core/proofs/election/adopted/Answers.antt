use Rattle.std.proofs.Common.{rules}
use Rattle.replica_core.proofs.election.adopted.Goals as goal

pub returns-then-is_election-clause-adopted : goal.returns-then-is_election-clause-adopted
returns-then-is_election-clause-adopted c = search rules

pub returns-else-is_election-clause-refused : goal.returns-else-is_election-clause-refused
returns-else-is_election-clause-refused c = search rules
