use Rattle.replica_laws.proofs.AtOnce.{votes_at_once}
use Rattle.replica_laws.proofs.votes.votes_at_once.Goals as goal

pub returns : goal.returns
returns c = votes_at_once
