use Rattle.txn_table.proofs.Listing.{same-then}
use Rattle.txn_table.proofs.waiters.room_for_all.Goals as goal

pub loop-item-preserved : goal.loop-item-preserved
loop-item-preserved c = same-then _ _ _ c.loop-item.invariant c.room_for_read.ensures

pub returns-in_err-room_for_read : goal.returns-in_err-room_for_read
returns-in_err-room_for_read c = same-then _ _ _ c.loop-item.invariant c.room_for_read.ensures
