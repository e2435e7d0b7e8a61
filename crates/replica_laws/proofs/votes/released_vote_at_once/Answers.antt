use Rattle.replica_laws.proofs.AtRelease.{released_at_once}
use Rattle.replica_laws.proofs.votes.released_vote_at_once.Goals as goal

pub returns : goal.returns
returns c = released_at_once c.ids_tell_places.ensures c.released_votes_ascend.ensures
