use Rattle.replica_laws.proofs.Handling.{one_decision}
use Rattle.replica_laws.proofs.steps.one_decision_per_view.Goals as goal

pub returns : goal.returns
returns c = one_decision c.ids_tell_places.ensures c.released_votes_ascend.ensures
