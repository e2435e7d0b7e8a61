use Rattle.std.proofs.Common.{◌≡◌, ◌+◌, ◌≤◌, length, drop}
use Rattle.txn_meta.specs.Places.{members, members_from}
use Rattle.txn_meta.proofs.shards.Shards.count.Given as goal

abbrev pub invariant-loop-mark : goal.invariant-loop-mark
invariant-loop-mark l =
    record {
      rest : length (members l.self)
          ≡ l.count + length (members_from l.mark-index (drop l.mark-index l.self));
      few : l.count ≤ l.mark-index;
    }
