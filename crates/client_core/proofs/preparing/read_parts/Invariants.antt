use Rattle.std.proofs.Common.{◌≡◌, map, take}
use Rattle.client_core.specs.Keeping.{part_kept}
use Rattle.client_core.specs.Kept.{shown_read}
use Rattle.client_core.proofs.preparing.read_parts.Given as goal

abbrev pub invariant-loop-asked : goal.invariant-loop-asked
invariant-loop-asked l = l.parts.items ≡ map (part_kept l.cluster) (map shown_read (take l.asked-index l.reads))
