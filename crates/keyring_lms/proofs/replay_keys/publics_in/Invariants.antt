use Rattle.std.proofs.Common.{◌≡◌, map, take}
use Rattle.keyring_lms.specs.Replay.{public_entry}
use Rattle.keyring_lms.proofs.replay_keys.publics_in.Given as goal

abbrev pub invariant-loop-entry : goal.invariant-loop-entry
invariant-loop-entry l = l.publics.items ≡ map public_entry (take l.entry-index l.trees)
