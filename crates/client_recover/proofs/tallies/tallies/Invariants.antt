use Rattle.std.proofs.Common.{◌≡◌, map, take}
use Rattle.frame_values.specs.Owned.{tally_value}
use Rattle.client_recover.specs.Kept as kept
use Rattle.client_recover.proofs.tallies.tallies.Given as goal

abbrev pub invariant-loop-shard : goal.invariant-loop-shard
invariant-loop-shard l = map tally_value l.list.items ≡ map (kept.tally l.cluster l.votes l.decision l.needed) (take l.shard-index l.shards)
