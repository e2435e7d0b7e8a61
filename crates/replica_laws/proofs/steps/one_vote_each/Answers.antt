use Rattle.replica_laws.proofs.Handling.{one_vote}
use Rattle.replica_laws.proofs.steps.one_vote_each.Goals as goal

pub returns : goal.returns
returns c = one_vote c.ids_tell_places.ensures c.released_votes_ascend.ensures
