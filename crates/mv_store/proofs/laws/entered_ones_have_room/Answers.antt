use Rattle.mv_store.proofs.MemberLaws.{room_of_entered}
use Rattle.mv_store.proofs.laws.entered_ones_have_room.Goals as goal

pub returns : goal.returns
returns c store held noted h s among = room_of_entered store held noted h s among
