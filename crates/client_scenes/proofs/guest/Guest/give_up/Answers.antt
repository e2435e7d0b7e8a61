use Rattle.std.proofs.Common.{sym}
use Rattle.std.proofs.Math.Logic.{∥∥₁_map}
use Rattle.client_scenes.proofs.SlotLaws.{can_be_asked}
use Rattle.client_scenes.proofs.guest.Guest.give_up.Goals as goal

pub plan-requires : goal.plan-requires
plan-requires c =
    let me = c.args.self.now in
    can_be_asked me.client.held _ me.slots c.args.ask me.shown (sym c.if-not-can_be_asked.ensures)

pub invariant_of-self : goal.invariant_of-self
invariant_of-self c =
    let me = c.args.self.now in
    record {
      shown = ∥∥₁_map me.shown (λ h. (h.0, c.give_up.ensures.shown h.0 (c.plan.ensures.shown h.0 h.1), h.2));
    }

pub invariant_of-self-in-Err-1 : goal.invariant_of-self-in-Err-1
invariant_of-self-in-Err-1 c =
    let me = c.args.self.now in
    record { shown = ∥∥₁_map me.shown (λ h. (h.0, c.plan.ensures.shown h.0 h.1, h.2)) }
