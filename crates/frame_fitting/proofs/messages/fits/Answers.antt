use Rattle.std.proofs.Common.{Bool, sym, subst}
use Rattle.std.specs.Prelude.{◌↔◌, IsTrue, is_some}
use Rattle.frame_views.specs.Fitting.{bounds_of}
use Rattle.frame_views.specs.Values.{MessageValue}
use Rattle.frame_values.specs.Owned.{message_value}
use Rattle.frame_values.specs.Parts.{message_parts}
use Rattle.frame_fitting.proofs.RoomLaws.{Fitting, room_tells}
use Rattle.frame_fitting.proofs.messages.fits.Goals as goal

pub returns : goal.returns
returns c =
    let b = bounds_of c.args.cluster.now in
    let given =
    room_tells b (message_parts c.lent.result) c.message_room.result c.message_room.ensures.value c.message_room.ensures.known in
    let of : IsTrue (is_some c.message_room.result) ↔ Fitting b (message_value c.args.m.now) =
    subst (λ (v : MessageValue). IsTrue (is_some c.message_room.result) ↔ Fitting b v) c.lent.ensures given in
    subst (λ (t : Bool). IsTrue t ↔ Fitting b (message_value c.args.m.now)) (sym c.is_some.ensures) of
