use Rattle.std.proofs.Common.{Some}
use Rattle.std.proofs.Math.Logic.{∥∥₁_map}
use Rattle.keyring.specs.contracts.plain.PlainKeysVerifier.TheImpl as keys
use Rattle.keyring_lms.specs.contracts.pen.LmsPenSigner.TheImpl as pens
use Rattle.client_core.specs.Calls.{recovered_at}
use Rattle.client_core.specs.Seats.{self_at}
use Rattle.client_scenes.proofs.SlotLaws.{below_by, raised, recover_holds}
use Rattle.client_scenes.proofs.guest.Guest.recover.Goals as goal

pub invariant_of-self : goal.invariant_of-self
invariant_of-self c =
    let me = c.args.self.now in
    let who = self_at me.client.seat (keys.ghosts.accepted me.client.keys) (pens.ghosts.fixed me.client.pen) in
    record {
      shown = ∥∥₁_map me.shown (λ h. let a = c.in-Ok.ensures.answer h.0 h.1 in
          let held = recover_holds who h.0 c.args.t.now c.args.signature.now a.0 a.1 in
          raised c.recover.new.self.held _ h.0 me.slots h.2 c.counted-self.result (Some c.in-Ok.slot) c.counted-self.ensures a.0 held.0
          (below_by _ c.in-Ok.slot (recovered_at h.0 c.args.t.now) (c.in-Ok.ensures.slot h.0 h.1) held.1) (a.2).0);
    }

pub invariant_of-self-in-Err-1 : goal.invariant_of-self-in-Err-1
invariant_of-self-in-Err-1 c =
    let me = c.args.self.now in
    record { shown = ∥∥₁_map me.shown (λ h. (h.0, c.in-Err.ensures.as_before h.0 h.1, h.2)) }
