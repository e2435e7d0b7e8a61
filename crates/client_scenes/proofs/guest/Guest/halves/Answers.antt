use Rattle.std.proofs.Common.{◌∙◌, ap, sym, subst}
use Rattle.std.proofs.Math.Logic.{∥∥₁_map}
use Rattle.keyring.specs.contracts.plain.PlainKeysVerifier.TheImpl as keys
use Rattle.keyring.specs.Signing.{Signing}
use Rattle.keyring_lms.specs.contracts.pen.LmsPenSigner.TheImpl as pens
use Rattle.client_core.specs.Seats.{self_at}
use Rattle.client_core.specs.Works.{WillDo}
use Rattle.client_scenes.proofs.SlotLaws.{ask_below, ask_keeps, can_be_asked, raised}
use Rattle.client_scenes.proofs.guest.Guest.halves.Goals as goal

pub plan-requires : goal.plan-requires
plan-requires c =
    let me = c.args.self.now in
    can_be_asked me.client.held _ me.slots c.args.ask me.shown (sym c.if-not-can_be_asked.ensures)

pub invariant_of-self : goal.invariant_of-self
invariant_of-self c =
    let me = c.args.self.now in
    let who = self_at me.client.seat (keys.ghosts.accepted me.client.keys) (pens.ghosts.fixed me.client.pen) in
    record {
      shown = ∥∥₁_map me.shown (λ h. let a = c.in-Ok.ensures.answer h.0 h.1 in
          let does = subst (λ (s : Signing). WillDo s c.plan.new.self.held h.0 c.in-Ok.plan a.0)
          (ap pens.ghosts.fixed (sym c.plan.ensures.pen)) a.2 in
          let done = c.commit-out.ensures.done h.0 a.0 (c.plan.ensures.shown h.0 h.1) does in
          raised c.commit-out.new.self.held _ h.0 me.slots h.2 c.counted-self.result c.slot-slot.result c.counted-self.ensures a.0
          (ask_keeps who h.0 c.args.ask a.0 a.1)
          (λ s e. ask_below who h.0 c.args.ask a.0 a.1 s (sym (c.in-Ok.ensures.slot h.0 h.1) ∙ sym c.slot-slot.ensures ∙ e))
          done.0);
    }

pub invariant_of-self-in-Err-1 : goal.invariant_of-self-in-Err-1
invariant_of-self-in-Err-1 c =
    let me = c.args.self.now in
    record { shown = ∥∥₁_map me.shown (λ h. (h.0, c.plan.ensures.shown h.0 h.1, h.2)) }
