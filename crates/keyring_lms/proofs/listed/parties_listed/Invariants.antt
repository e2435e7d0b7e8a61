use Rattle.std.proofs.Common.{take}
use Rattle.keyring_lms.specs.Replay.{AreListedOf}
use Rattle.keyring_lms.proofs.listed.parties_listed.Given as goal

abbrev pub invariant-loop-party : goal.invariant-loop-party
invariant-loop-party l = AreListedOf l.cluster (take l.party-index l.listed) l.parties.items
