use Rattle.std.proofs.Common.{◌≡◌, drop}
use Rattle.keyring_lms.specs.Replay.{is_listed}
use Rattle.keyring_lms.proofs.listed.is_listed.Given as goal

abbrev pub invariant-loop-one : goal.invariant-loop-one
invariant-loop-one l = is_listed l.parties l.party ≡ is_listed (drop l.one-index l.parties) l.party
