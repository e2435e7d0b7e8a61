use Rattle.std.proofs.Common.{◌≡◌}
use Rattle.basil_types.specs.Shown.{transaction_of, writes_left}
use Rattle.client_core.specs.Slots.{write_of, write_in}
use Rattle.client_core.proofs.replies.write_to.Given as goal

abbrev pub invariant-loop-item : goal.invariant-loop-item
invariant-loop-item l = write_of l.key (transaction_of l.fn.t) ≡ write_in l.key (writes_left l.item-iterator)
