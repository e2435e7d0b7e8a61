use Rattle.serial_laws.proofs.Sanity.{settings_are_sane}
use Rattle.serial_laws.proofs.laws.settings_are_sane.Goals as goal

pub returns : goal.returns
returns c = settings_are_sane c.shard_conflicts.ensures
