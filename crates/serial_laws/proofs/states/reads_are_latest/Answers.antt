use Rattle.serial_laws.proofs.Committing.{reads_are_latest}
use Rattle.serial_laws.proofs.states.reads_are_latest.Goals as goal

pub returns : goal.returns
returns c =
    reads_are_latest c.settings_are_sane.ensures c.voters.ensures c.dependency_there.ensures c.none_between.ensures
