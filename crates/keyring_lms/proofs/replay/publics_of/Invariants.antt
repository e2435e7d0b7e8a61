use Rattle.std.proofs.Common.{◌≡◌, map, take}
use Rattle.keyring_lms.specs.Replay.{entry_of}
use Rattle.keyring_lms.proofs.replay.publics_of.Given as goal

abbrev pub invariant-loop-party : goal.invariant-loop-party
invariant-loop-party l = l.publics.items ≡ map (entry_of l.set) (take l.party-index l.parties)
