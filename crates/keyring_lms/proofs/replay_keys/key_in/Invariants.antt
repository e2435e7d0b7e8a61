use Rattle.std.proofs.Common.{◌≡◌, drop}
use Rattle.keyring_lms.specs.Replay.{tree_found}
use Rattle.keyring_lms.proofs.replay_keys.key_in.Given as goal

abbrev pub invariant-loop-entry : goal.invariant-loop-entry
invariant-loop-entry l = tree_found l.trees l.party ≡ tree_found (drop l.entry-index l.trees) l.party
