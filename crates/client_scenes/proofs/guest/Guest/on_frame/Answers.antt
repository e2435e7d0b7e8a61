use Rattle.std.proofs.Math.Logic.{∥∥₁_map}
use Rattle.keyring.specs.contracts.plain.PlainKeysVerifier.TheImpl as keys
use Rattle.keyring_lms.specs.contracts.pen.LmsPenSigner.TheImpl as pens
use Rattle.client_core.specs.Answers.{on_frame}
use Rattle.client_core.specs.Done.{Sends}
use Rattle.client_core.specs.Seats.{self_at}
use Rattle.client_scenes.proofs.SlotLaws.{frame_keeps, framed}
use Rattle.client_scenes.proofs.guest.Guest.on_frame.Goals as goal

pub invariant_of-self : goal.invariant_of-self
invariant_of-self c =
    let me = c.args.self.now in
    let who = self_at me.client.seat (keys.ghosts.accepted me.client.keys) (pens.ghosts.fixed me.client.pen) in
    record {
      shown =
          ∥∥₁_map me.shown (λ h. framed c.on_frame.new.self.held _ h.0 me.slots h.2 c.on_frame.result (on_frame who h.0 c.args.frame.now)
          (Sends c.args.out.now c.on_frame.new.out) (frame_keeps who h.0 c.args.frame.now)
          (c.on_frame.ensures.answer h.0 h.1) (c.on_frame.ensures.as_before h.0 h.1));
    }
