use Rattle.std.proofs.Common.{arith, true, []}
use Rattle.std.proofs.Math.Logic.{∥∥₁_map}
use Rattle.basil_types.specs.declared.transaction.parts.WritePart.{WritePart}
use Rattle.client_core.specs.Calls.{call_write}
use Rattle.client_scenes.proofs.SlotLaws.{holds_slot, wrote, write_keeps}
use Rattle.client_scenes.proofs.guest.Guest.delete.Goals as goal

pub delete-requires : goal.delete-requires
delete-requires c =
    let me = c.args.self.now in
    holds_slot me.client.held _ me.slots c.args.slot me.shown (omega arith)

pub invariant_of-self : goal.invariant_of-self
invariant_of-self c =
    let me = c.args.self.now in
    let w : WritePart = record { key = c.args.key.now; value = []; deletes = true } in
    record {
      shown = ∥∥₁_map me.shown (λ h. wrote c.delete.new.self.held _ h.0 me.slots h.2 c.delete.result (call_write h.0 c.args.slot w)
          (write_keeps h.0 c.args.slot w) (c.delete.ensures.answer h.0 h.1) (c.delete.ensures.as_before h.0 h.1));
    }
