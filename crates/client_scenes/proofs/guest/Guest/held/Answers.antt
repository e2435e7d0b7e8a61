use Rattle.std.proofs.Common.{arith}
use Rattle.client_scenes.proofs.SlotLaws.{holds_slot}
use Rattle.client_scenes.proofs.guest.Guest.held.Goals as goal

pub held-requires : goal.held-requires
held-requires c =
    let me = c.args.self.now in
    holds_slot me.client.held _ me.slots c.args.slot me.shown (omega arith)
