use Rattle.std.proofs.Common.{◌≡◌, ◌≤◌, ◌++◌, length, take, drop}
use Rattle.txn_meta.specs.Places.{members, members_from}
use Rattle.client_recover.proofs.involved.Involved.of.Given as goal

abbrev pub invariant-loop-shard : goal.invariant-loop-shard
invariant-loop-shard l =
    (take l.count l.shards ++ members_from l.shard (drop l.shard l.marks) ≡ members l.marks) × (l.count ≤ l.shard) × (length l.shards ≡ 8)
