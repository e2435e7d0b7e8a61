use Rattle.serial_laws.proofs.Committing.{none_between}
use Rattle.serial_laws.proofs.states.none_between.Goals as goal

pub returns : goal.returns
returns c = none_between c.settings_are_sane.ensures c.exclusion.ensures
