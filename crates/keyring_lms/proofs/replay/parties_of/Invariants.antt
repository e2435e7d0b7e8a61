use Rattle.std.proofs.Common.{◌≡◌, ◌+◌, ◌*◌}
use Rattle.std.specs.List.{flat_map, range_with_len}
use Rattle.keyring_lms.specs.Replay.{replicas_of}
use Rattle.keyring_lms.proofs.replay.parties_of.Given as goal

abbrev pub invariant-loop-shard : goal.invariant-loop-shard
invariant-loop-shard l = l.parties.items ≡ flat_map (replicas_of (5 * l.cluster.f + 1)) (range_with_len 0 l.shard)
