use Rattle.std.proofs.Common.{rules}
use Rattle.frame_fitting.specs.Room.{signature_room}
use Rattle.frame_fitting.proofs.fields.signature_room.Goals as goal

pub returns-then-len-le-SIGNATURE_LIMIT : goal.returns-then-len-le-SIGNATURE_LIMIT
unfolding signature_room
returns-then-len-le-SIGNATURE_LIMIT c = search rules
