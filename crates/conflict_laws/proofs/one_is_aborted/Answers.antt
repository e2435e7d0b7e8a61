use Rattle.conflict_laws.proofs.Answering.{one_aborted}
use Rattle.conflict_laws.proofs.one_is_aborted.Goals as goal

pub returns : goal.returns
returns c =
    one_aborted c.ids_tell_places.ensures c.released_votes_ascend.ensures c.nothing_that_stands_conflicts.ensures
    c.shard_conflicts.ensures
