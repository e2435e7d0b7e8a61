use Rattle.std.proofs.Common.{◌≡◌, ℕ, true, List}
use Rattle.std.specs.List.{list_any}
use Rattle.basil_types.specs.Lists.{AreItems}
use Rattle.basil_types.specs.Shown.{transaction_of, reads_left}
use Rattle.basil_types.specs.Texts.{key_below}
use Rattle.basil_types.specs.Transaction.{FitsRead, FitsWrite, key_of_read, key_of_write, writes_key}
use Rattle.txn_meta.specs.Conflicts.{is_crossed, crosses}
use Rattle.txn_meta.specs.Merging.{ahead}
use Rattle.txn_meta.proofs.MergeLaws.{has}
use Rattle.txn_meta.proofs.conflicts.is_crossed.Given as goal

-- what is left of both lists decides; the reads that are left are above the last one, and of each key above that one the
-- writes that are left tell whether there is one
abbrev pub invariant-loop-item : goal.invariant-loop-item
invariant-loop-item l = record {
  found : is_crossed (transaction_of l.fn.reader) (transaction_of l.fn.writer)
      ≡ list_any (crosses (transaction_of l.fn.writer) (transaction_of l.fn.reader)) (reads_left l.item-iterator);
  writes : (floor : List ℕ) × AreItems (FitsWrite (transaction_of l.fn.writer).format) key_of_write floor (ahead l.next l.writes);
  reads : (before : List ℕ) × AreItems FitsRead key_of_read before (reads_left l.item-iterator)
      × ((key : List ℕ) → key_below before key ≡ true → has key (ahead l.next l.writes) ≡ writes_key (transaction_of l.fn.writer) key);
}
