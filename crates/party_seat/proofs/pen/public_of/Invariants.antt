use Rattle.std.proofs.Common.{◌≡◌, drop}
use Rattle.keyring_lms.specs.Keys.{public_in}
use Rattle.party_seat.proofs.pen.public_of.Given as goal

abbrev pub invariant-loop-entry : goal.invariant-loop-entry
invariant-loop-entry l = public_in l.publics l.party ≡ public_in (drop l.entry-index l.publics) l.party
