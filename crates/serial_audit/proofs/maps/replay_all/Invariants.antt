use Rattle.std.proofs.Common.{◌≡◌, [], drop}
use Rattle.basil_types.specs.Replayed.{replay}
use Rattle.serial_audit.specs.Parts.{lent}
use Rattle.serial_audit.proofs.maps.replay_all.Given as goal

abbrev pub invariant-loop-t : goal.invariant-loop-t
invariant-loop-t l = replay [] (lent l.ordered) ≡ replay l.map.entries (lent (drop l.t-index l.ordered))
