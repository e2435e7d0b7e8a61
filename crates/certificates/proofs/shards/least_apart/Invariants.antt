use Rattle.std.proofs.Common.{◌≡◌, find, drop}
use Rattle.certificates.specs.Marks.{is_apart}
use Rattle.certificates.specs.Refusals.{all_shards}
use Rattle.certificates.proofs.shards.least_apart.Given as goal

abbrev pub invariant-loop-shard : goal.invariant-loop-shard
invariant-loop-shard l = find (is_apart l.marks l.others) (drop l.shard all_shards) ≡ find (is_apart l.marks l.others) all_shards
