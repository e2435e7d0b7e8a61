use Rattle.serial_laws.proofs.Steps.{after_answer}
use Rattle.serial_laws.proofs.invariant.holds_after_answer.Goals as goal

pub returns : goal.returns
returns c = after_answer c.settings_are_sane.ensures c.invariant_after_answer.ensures c.certificates_stay.ensures
