use Rattle.std.proofs.Common.{◌+◌, ◌*◌, arith, refl}
use Rattle.keyring_lms.specs.Replay.{replicas_of}
use Rattle.keyring_lms.proofs.Parties.{flat_map-more}
use Rattle.keyring_lms.proofs.replay.parties_of.Goals as goal

pub loop-shard-preserved : goal.loop-shard-preserved
loop-shard-preserved c =
    let n = 5 * c.args.cluster.now.f + 1 in
    let more = flat_map-more (replicas_of n) 0 c.loop-shard.shard c.loop-shard.shard (omega arith) in
    rw (c.in_ok-push_replicas.ensures, c.loop-shard.invariant, c.n.ensures.value, more) refl
