use Rattle.std.proofs.Common.{rules}
use Rattle.basil_types.proofs.links.connections.next_of.Goals as goal

pub returns-in-Some-clause-first : goal.returns-in-Some-clause-first
returns-in-Some-clause-first c = search rules

pub returns-in-Some-clause-behind : goal.returns-in-Some-clause-behind
returns-in-Some-clause-behind c = search rules
