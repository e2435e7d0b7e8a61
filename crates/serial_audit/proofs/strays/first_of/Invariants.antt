use Rattle.std.proofs.Common.{◌≡◌, [], drop}
use Rattle.std.specs.Prelude.{option_map, flat_map}
use Rattle.std.specs.List.{enumerate_from}
use Rattle.basil_types.specs.Replayed.{by_version}
use Rattle.mv_store.specs.Store.{Stands}
use Rattle.serial_audit.specs.Parts.{all_told, first_with, stray_found}
use Rattle.serial_audit.specs.Strays.{first_stray, strays_at}
use Rattle.serial_audit.proofs.strays.first_of.Given as goal

abbrev pub invariant-loop-place : goal.invariant-loop-place
invariant-loop-place l =
    Stands l.writers (all_told (by_version l.list)) [] →
    first_stray l.list
    ≡ first_with (option_map stray_found l.first) (flat_map (strays_at l.list) (enumerate_from l.place (drop l.place l.list)))
