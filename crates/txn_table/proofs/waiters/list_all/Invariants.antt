use Rattle.std.proofs.Common.{◌≡◌, ℕ, List, true, cond}
use Rattle.std.specs.List.{list_any}
use Rattle.basil_types.specs.Shown.{transaction_of, reads_left}
use Rattle.txn_table.specs.Waiters.{listed, with_place, waits_on, reads_on}
use Rattle.txn_table.proofs.waiters.list_all.Given as goal

abbrev pub invariant-loop-item : goal.invariant-loop-item
invariant-loop-item l =
    record {
      whole : l.waiters.whole ≡ true → l.fn.waiters.whole ≡ true;
      places : l.waiters.whole ≡ true → (id : List ℕ)
          → cond (waits_on (transaction_of l.fn.t) id) (with_place l.place (listed l.fn.waiters id)) (listed l.fn.waiters id)
          ≡ cond (list_any (reads_on id) (reads_left l.item-iterator)) (with_place l.place (listed l.waiters id)) (listed l.waiters id);
    }
