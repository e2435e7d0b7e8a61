use Rattle.serial_laws.proofs.Serials.{closed_are_serial}
use Rattle.serial_laws.proofs.states.closed_are_serial.Goals as goal

pub returns : goal.returns
returns c =
    closed_are_serial c.settings_are_sane.ensures c.voters.ensures c.maps_before_are_latest.ensures c.reads_are_latest.ensures
