use Rattle.std.proofs.Common.{◌≡◌, ◌++◌}
use Rattle.keyring_lms.specs.Replay.{replicas_of}
use Rattle.keyring_lms.proofs.replay.push_replicas.Given as goal

abbrev pub invariant-loop-index : goal.invariant-loop-index
invariant-loop-index l = l.parties.items ≡ l.initial.parties.items ++ replicas_of l.index l.shard
