use Rattle.std.proofs.Common.{◌≡◌, ℕ}
use Rattle.std.specs.Prelude.{◌==◌, ◌||◌}
use Rattle.std.specs.List.{list_any}
use Rattle.basil_types.specs.Shown.{transaction_of, reads_left}
use Rattle.txn_meta.specs.Places.{shard_of, reads_of, is_marked}
use Rattle.txn_meta.proofs.shards.mark_reads.Given as goal

abbrev pub invariant-loop-item : goal.invariant-loop-item
invariant-loop-item l =
    (shard : ℕ) →
    (reads_of l.cluster (transaction_of l.fn.t) shard || is_marked l.fn.marks shard)
    ≡ (list_any (λ x. shard_of l.cluster x.key == shard) (reads_left l.item-iterator) || is_marked l.marks shard)
