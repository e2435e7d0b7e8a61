use Rattle.std.proofs.Common.{◌≡◌, true}
use Rattle.cluster_file.specs.Seats.{parties_of, all_below, is_whole_shard}
use Rattle.cluster_file.proofs.seats.are_whole.Given as goal

abbrev pub invariant-loop-shard : goal.invariant-loop-shard
invariant-loop-shard l = all_below (is_whole_shard l.cluster (parties_of l.seats)) l.shard ≡ true
