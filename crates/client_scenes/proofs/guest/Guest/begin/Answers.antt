use Rattle.std.proofs.Common.{Some}
use Rattle.std.proofs.Math.Logic.{∥∥₁_map}
use Rattle.client_scenes.proofs.SlotLaws.{begun_below, begun_keeps, raised}
use Rattle.client_scenes.proofs.guest.Guest.begin.Goals as goal

pub invariant_of-self : goal.invariant_of-self
invariant_of-self c =
    let me = c.args.self.now in
    record {
      shown = ∥∥₁_map me.shown (λ h. let a = c.in-Ok.ensures.answer h.0 h.1 in
          raised c.begin.new.self.held _ h.0 me.slots h.2 c.counted-self.result (Some c.in-Ok.slot) c.counted-self.ensures a.0
          (begun_keeps h.0 c.args.time a.0 a.1)
          (begun_below h.0 c.args.time c.in-Ok.slot a.0 a.1 (c.in-Ok.ensures.slot h.0 h.1)) a.2);
    }

pub invariant_of-self-in-Err-1 : goal.invariant_of-self-in-Err-1
invariant_of-self-in-Err-1 c =
    let me = c.args.self.now in
    record { shown = ∥∥₁_map me.shown (λ h. (h.0, c.in-Err.ensures.as_before h.0 h.1, h.2)) }
