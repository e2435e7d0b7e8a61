use Rattle.txn_table.proofs.Room.{kept-room}
use Rattle.txn_table.proofs.table.Table.room_for_waits.Goals as goal

pub invariant_of-self : goal.invariant_of-self
invariant_of-self c =
    kept-room c.self.inside.entries c.self.inside.askers
    c.self.inside.waiters c.make_room.new.self c.self.inside.room c.make_room.ensures c.self.invariant
