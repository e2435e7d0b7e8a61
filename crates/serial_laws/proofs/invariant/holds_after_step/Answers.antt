use Rattle.serial_laws.proofs.Steps.{after_step}
use Rattle.serial_laws.proofs.invariant.holds_after_step.Goals as goal

pub returns : goal.returns
returns c = after_step c.settings_are_sane.ensures c.invariant_after_event.ensures c.certificates_stay.ensures
