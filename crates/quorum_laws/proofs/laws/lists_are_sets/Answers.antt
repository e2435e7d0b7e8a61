use Rattle.quorum_laws.proofs.ListSets.{lists_are_sets}
use Rattle.quorum_laws.proofs.laws.lists_are_sets.Goals as goal

pub returns : goal.returns
returns c = lists_are_sets
