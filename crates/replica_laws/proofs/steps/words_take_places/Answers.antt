use Rattle.replica_laws.proofs.Placing.{words_placed}
use Rattle.replica_laws.proofs.steps.words_take_places.Goals as goal

pub returns : goal.returns
returns c = words_placed c.ids_tell_places.ensures c.released_votes_ascend.ensures
