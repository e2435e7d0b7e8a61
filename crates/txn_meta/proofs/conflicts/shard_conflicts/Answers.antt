use Rattle.txn_meta.proofs.ConflictLaws as laws
use Rattle.txn_meta.proofs.conflicts.shard_conflicts.Goals as goal

pub returns : goal.returns
returns c = laws.shard_conflicts
