use Rattle.txn_table.proofs.ReleasedLaws.{released_ascend}
use Rattle.txn_table.proofs.laws.released_votes_ascend.Goals as goal

pub returns : goal.returns
returns c = released_ascend
