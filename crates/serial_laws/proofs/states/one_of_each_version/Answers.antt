use Rattle.serial_laws.proofs.Committing.{one_of_each_version}
use Rattle.serial_laws.proofs.states.one_of_each_version.Goals as goal

pub returns : goal.returns
returns c = one_of_each_version
