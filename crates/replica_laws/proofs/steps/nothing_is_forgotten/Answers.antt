use Rattle.replica_laws.proofs.Handling.{all_grow}
use Rattle.replica_laws.proofs.steps.nothing_is_forgotten.Goals as goal

pub returns : goal.returns
returns c = all_grow c.ids_tell_places.ensures c.released_votes_ascend.ensures
