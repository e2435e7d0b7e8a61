use Rattle.replica_laws.proofs.Counting.{signs_few}
use Rattle.replica_laws.proofs.steps.signs_no_more_than_handed.Goals as goal

pub returns : goal.returns
returns c = signs_few c.released_votes_ascend.ensures
