use Rattle.std.proofs.Common.{arith}
use Rattle.client_scenes.proofs.SlotLaws.{holds_slot}
use Rattle.client_scenes.proofs.guest.Guest.value.Goals as goal

pub value-requires : goal.value-requires
value-requires c =
    let me = c.args.self.now in
    holds_slot me.client.held _ me.slots c.args.slot me.shown (omega arith)
