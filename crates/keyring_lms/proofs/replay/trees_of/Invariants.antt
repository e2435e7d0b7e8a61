use Rattle.std.proofs.Common.{◌≡◌, map, take}
use Rattle.keyring_lms.specs.Replay.{tree_entry}
use Rattle.keyring_lms.proofs.replay.trees_of.Given as goal

abbrev pub invariant-loop-party : goal.invariant-loop-party
invariant-loop-party l = l.trees.items ≡ map (tree_entry l.set) (take l.party-index l.parties)
