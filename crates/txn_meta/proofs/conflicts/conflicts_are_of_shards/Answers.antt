use Rattle.txn_meta.proofs.ConflictLaws as laws
use Rattle.txn_meta.proofs.conflicts.conflicts_are_of_shards.Goals as goal

pub returns : goal.returns
returns c = laws.conflicts_are_of_shards
