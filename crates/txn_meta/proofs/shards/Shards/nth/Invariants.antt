use Rattle.std.proofs.Common.{◌≡◌, ◌-◌, ◌≤◌, drop}
use Rattle.std.specs.Prelude.{slice_get}
use Rattle.txn_meta.specs.Places.{members, members_from}
use Rattle.txn_meta.proofs.shards.Shards.nth.Given as goal

abbrev pub invariant-loop-shard : goal.invariant-loop-shard
invariant-loop-shard l =
    record {
      rest : slice_get (members l.self) l.place ≡ slice_get
          (members_from l.shard (drop l.shard l.self)) (l.place - l.before);
      before : l.before ≤ l.place;
      few : l.before ≤ l.shard;
    }
