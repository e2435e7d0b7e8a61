use Rattle.std.proofs.Common.{ℕ, ◌+◌, ◌%◌, ◌<◌, ap, ◌∙◌, arith}
use Rattle.std.proofs.Math.Nat.{mod-lt}
use Rattle.txn_meta.proofs.Sums.{sum_more}
use Rattle.txn_meta.proofs.shards.shard_of.Goals as goal

pub loop-byte-preserved : goal.loop-byte-preserved
loop-byte-preserved c =
    let some : 0 < c.from-shards.result = omega arith in (
      ap (λ (b : ℕ). (c.loop-byte.sum + b) % c.from-shards.result) c.from.ensures
          ∙ sum_more c.loop-byte.sum c.from-shards.result
          c.loop-byte.byte-index c.args.key.now c.loop-byte-test.true c.loop-byte.invariant.0,
      mod-lt _ some,
    )
