use Rattle.std.proofs.Common.{◌≡◌, drop}
use Rattle.keyring_lms.specs.Keys.{public_in}
use Rattle.keyring_lms.proofs.keys.LmsKeys.public_of.Given as goal

abbrev pub invariant-loop-entry : goal.invariant-loop-entry
invariant-loop-entry l = public_in l.self l.party ≡ public_in (drop l.entry-index l.self) l.party
