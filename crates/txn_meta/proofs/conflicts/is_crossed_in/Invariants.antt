use Rattle.std.proofs.Common.{◌≡◌}
use Rattle.std.specs.List.{list_any}
use Rattle.basil_types.specs.Shown.{transaction_of, reads_left}
use Rattle.txn_meta.specs.Conflicts.{is_crossed_in, crosses_in}
use Rattle.txn_meta.proofs.conflicts.is_crossed_in.Given as goal

abbrev pub invariant-loop-item : goal.invariant-loop-item
invariant-loop-item l =
    is_crossed_in l.cluster l.shard (transaction_of l.fn.reader) (transaction_of l.writer)
    ≡ list_any (crosses_in l.cluster l.shard (transaction_of l.writer) (transaction_of l.fn.reader)) (reads_left l.item-iterator)
