use Rattle.std.proofs.Common.{rules}
use Rattle.party_seat.proofs.pen.key_of.Goals as goal

pub returns-clause-made : goal.returns-clause-made
returns-clause-made c = search rules
