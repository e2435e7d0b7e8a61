use Rattle.std.proofs.Common.{sym, arith}
use Rattle.std.specs.Prelude.{IsSome}
use Rattle.basil_types.specs.Shown.{transaction_of, write_of}
use Rattle.mv_store.specs.Keys.{writer_slot}
use Rattle.mv_store.proofs.IndexLaws.{more_room}
use Rattle.mv_store.proofs.RoomLaws.{room_more, room_all}
use Rattle.mv_store.proofs.store.Store.room_for_writes.Goals as goal

pub loop-place-preserved : goal.loop-place-preserved
loop-place-preserved c =
    let more = c.in_ok-room_for_writer.ensures.as_before in
    record {
      more = more_room _ _ _ c.loop-place.invariant.more more;
      room =
          room_more (λ x. IsSome (writer_slot c.loop-place.self.keys x.key c.args.version.now))
          (λ x. IsSome (writer_slot c.room_for_writer.new.self x.key c.args.version.now))
          (transaction_of c.args.t).writes c.loop-place.place (write_of c.in-Some.item) (sym c.in-Some.ensures)
          (λ x h. more.writer_slots x.key c.args.version.now h) c.in_ok-room_for_writer.ensures.room c.loop-place.invariant.room;
    }

pub returns-clause-room : goal.returns-clause-room
returns-clause-room c =
    room_all (λ x. IsSome (writer_slot c.loop-place.self.keys x.key c.args.version.now))
    (transaction_of c.args.t).writes c.loop-place.place (omega (arith, c.bytes.ensures.in_range.few_writes)) c.loop-place.invariant.room
