use Rattle.replica_laws.proofs.Handling.{all_spend}
use Rattle.replica_laws.proofs.steps.places_never_repeat.Goals as goal

pub returns : goal.returns
returns c = all_spend c.ids_tell_places.ensures c.released_votes_ascend.ensures
