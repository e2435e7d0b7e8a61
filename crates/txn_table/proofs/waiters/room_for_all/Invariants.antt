use Rattle.txn_table.specs.Waiters.{SamePlaces}
use Rattle.txn_table.proofs.waiters.room_for_all.Given as goal

abbrev pub invariant-loop-item : goal.invariant-loop-item
invariant-loop-item l = SamePlaces l.fn.waiters l.waiters
