use Rattle.std.proofs.Common.{rules}
use Rattle.party_seat.proofs.station.replica_of.Goals as goal

pub returns-clause-sits : goal.returns-clause-sits
returns-clause-sits c = search rules
