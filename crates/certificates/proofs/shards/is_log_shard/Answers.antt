use Rattle.std.proofs.Common.{rules}
use Rattle.certificates.proofs.shards.is_log_shard.Goals as goal

pub returns-then-shard-log_shard : goal.returns-then-shard-log_shard
returns-then-shard-log_shard c = search rules
