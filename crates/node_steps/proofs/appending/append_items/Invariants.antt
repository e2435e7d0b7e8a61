use Rattle.std.proofs.Common.{◌≡◌, ◌≤◌, ◌++◌, length}
use Rattle.node_steps.proofs.appending.append_items.Given as goal

abbrev pub invariant-loop-item : goal.invariant-loop-item
invariant-loop-item g l =
    record {
      items : l.list.items ++ l.item-iterator.rest.items ≡ l.fn.list.items ++ l.fn.more.items;
      room : length l.item-iterator.rest.items ≤ l.list.room;
    }
