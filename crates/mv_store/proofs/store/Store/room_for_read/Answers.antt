use Rattle.mv_store.proofs.RoomLaws.{stands_with_room}
use Rattle.mv_store.proofs.store.Store.room_for_read.Goals as goal

pub returns-clause-as_before : goal.returns-clause-as_before
returns-clause-as_before c = λ held noted s. stands_with_room c.args.self.now _ held noted c.add_key.ensures.as_before s
