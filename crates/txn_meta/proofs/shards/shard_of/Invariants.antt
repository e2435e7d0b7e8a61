use Rattle.std.proofs.Common.{◌≡◌, ◌<◌, ◌%◌, take, sum}
use Rattle.txn_meta.proofs.shards.shard_of.Given as goal

abbrev pub invariant-loop-byte : goal.invariant-loop-byte
invariant-loop-byte l = (l.sum ≡ sum (take l.byte-index l.key) % l.shards) × (l.sum < l.shards)
