use Rattle.std.proofs.Common.{◌≡◌, ◌+◌, map, drop}
use Rattle.basil_types.specs.Transaction.{key_of_write}
use Rattle.basil_types.specs.Built.{order_fault, order_fault_from}
use Rattle.basil_types.proofs.transaction.spell.order_in_writes.Given as goal

abbrev pub invariant-loop-i : goal.invariant-loop-i
invariant-loop-i l = order_fault (map key_of_write l.fn.writes) ≡ order_fault_from (1 + l.i) l.before (map key_of_write (drop l.i l.rest))
