use Rattle.std.proofs.Common.{◌≡◌}
use Rattle.std.specs.Prelude.{◌==◌}
use Rattle.std.specs.List.{list_any}
use Rattle.basil_types.specs.Shown.{transaction_of, reads_left}
use Rattle.txn_meta.specs.Places.{shard_of}
use Rattle.txn_meta.proofs.shards.reads_at.Given as goal

abbrev pub invariant-loop-item : goal.invariant-loop-item
invariant-loop-item l =
    list_any (λ x. shard_of l.cluster x.key == l.shard) (transaction_of l.fn.t).reads
    ≡ list_any (λ x. shard_of l.cluster x.key == l.shard) (reads_left l.item-iterator)
