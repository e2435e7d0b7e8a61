use Rattle.run_journals.proofs.RoomLaws.{full-at-once, full-by}
use Rattle.run_journals.proofs.journal.RunJournal.is_full_for.Goals as goal

pub returns-then-room-lt-RECORD_BYTES : goal.returns-then-room-lt-RECORD_BYTES
returns-then-room-lt-RECORD_BYTES g c me begun value h j count =
    full-at-once value h c.bytes.result c.saturating_sub-room.result (c.bytes.ensures begun value.taken j.going.reflects)
    c.saturating_sub-room.ensures c.if-room-lt-RECORD_BYTES.true

pub returns-else-room-lt-RECORD_BYTES : goal.returns-else-room-lt-RECORD_BYTES
returns-else-room-lt-RECORD_BYTES g c me begun value h j count =
    full-by value h c.bytes.result c.saturating_sub-room.result c.args.count (c.bytes.ensures begun value.taken j.going.reflects)
    c.saturating_sub-room.ensures count c.if-room-lt-RECORD_BYTES.false
