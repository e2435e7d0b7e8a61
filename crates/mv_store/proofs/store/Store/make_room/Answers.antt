use Rattle.basil_types.specs.Shown.{transaction_of}
use Rattle.mv_store.proofs.RoomLaws.{stands_with_room, on_ok, room_of_both}
use Rattle.mv_store.proofs.store.Store.make_room.Goals as goal

pub returns-in_err-room_for_writes-clause-as_before : goal.returns-in_err-room_for_writes-clause-as_before
returns-in_err-room_for_writes-clause-as_before c =
    λ held noted s. stands_with_room c.args.self.now _ held noted c.room_for_writes.ensures.as_before s

pub returns-clause-room : goal.returns-clause-room
returns-clause-room c =
    on_ok c.room_for_reads.result (λ reads. room_of_both c.room_for_writes.new.self _ (transaction_of c.args.t) c.version_of-version.result
    c.version_of-version.ensures c.room_for_reads.ensures.as_before c.in_ok-room_for_writes.ensures.room reads)
    c.room_for_reads.ensures.room

pub returns-clause-as_before : goal.returns-clause-as_before
returns-clause-as_before c =
    λ held noted s.
    stands_with_room c.room_for_writes.new.self _ held noted c.room_for_reads.ensures.as_before
    (stands_with_room c.args.self.now _ held noted c.in_ok-room_for_writes.ensures.as_before s)
