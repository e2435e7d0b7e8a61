use Rattle.std.proofs.Common.{◌≡◌, ◌++◌, length}
use Rattle.serial_audit.specs.Maps.{pairs_of}
use Rattle.serial_audit.proofs.maps.pairs_in.Given as goal

abbrev pub invariant-keys : goal.invariant-keys
invariant-keys l = pairs_of l.fn.map.entries ≡ l.pairs.items ++ pairs_of l.rest.entries

abbrev pub decreases-keys : goal.decreases-keys
decreases-keys l = length l.rest.entries
