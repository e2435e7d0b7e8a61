use Rattle.conflict_laws.proofs.Answering.{ended_stay}
use Rattle.conflict_laws.proofs.ended_never_vote.Goals as goal

pub returns : goal.returns
returns c =
    ended_stay c.ids_tell_places.ensures c.released_votes_ascend.ensures c.nothing_that_stands_conflicts.ensures
    c.shard_conflicts.ensures
