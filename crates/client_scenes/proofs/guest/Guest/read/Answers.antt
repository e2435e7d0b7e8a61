use Rattle.std.proofs.Common.{arith}
use Rattle.std.proofs.Math.Logic.{∥∥₁_map}
use Rattle.keyring.specs.contracts.plain.PlainKeysVerifier.TheImpl as keys
use Rattle.keyring_lms.specs.contracts.pen.LmsPenSigner.TheImpl as pens
use Rattle.client_core.specs.Calls.{call_read}
use Rattle.client_core.specs.Done.{Sends}
use Rattle.client_core.specs.Seats.{self_at}
use Rattle.client_scenes.proofs.SlotLaws.{called, holds_slot, read_keeps}
use Rattle.client_scenes.proofs.guest.Guest.read.Goals as goal

pub read-requires : goal.read-requires
read-requires c =
    let me = c.args.self.now in
    holds_slot me.client.held _ me.slots c.args.slot me.shown (omega arith)

pub invariant_of-self : goal.invariant_of-self
invariant_of-self c =
    let me = c.args.self.now in
    let who = self_at me.client.seat (keys.ghosts.accepted me.client.keys) (pens.ghosts.fixed me.client.pen) in
    record {
      shown =
          ∥∥₁_map me.shown (λ h. called c.read.new.self.held _ h.0 me.slots h.2 c.read.result (call_read who h.0 c.args.slot c.args.key.now)
          (Sends c.args.out.now c.read.new.out) (read_keeps who h.0 c.args.slot c.args.key.now)
          (c.read.ensures.answer h.0 h.1) (c.read.ensures.as_before h.0 h.1));
    }
