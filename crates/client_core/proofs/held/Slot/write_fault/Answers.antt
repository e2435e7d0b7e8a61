use Rattle.std.proofs.Common.{◌∙◌, ap}
use Rattle.client_steps.specs.Steps.{fault_of}
use Rattle.client_core.proofs.StepLaws.{write_law}
use Rattle.client_core.proofs.held.Slot.write_fault.Goals as goal

pub returns : goal.returns
returns c = λ reads p formed.
    c.fault_of.ensures
    ∙ ap (λ b. fault_of b c.is_full_for-full.result c.write_fits.result) c.is_some-formed.ensures
    ∙ write_law c.args.self.now reads p
    (record { key = c.args.key.now; value = c.args.value.now; deletes = c.args.deletes })
    c.is_full_for-full.result c.write_fits.result formed c.is_full_for-full.ensures c.write_fits.ensures
