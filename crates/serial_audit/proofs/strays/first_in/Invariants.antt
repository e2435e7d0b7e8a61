use Rattle.std.proofs.Common.{◌≡◌, [], List}
use Rattle.std.specs.Prelude.{option_map}
use Rattle.basil_types.specs.Replayed.{by_version}
use Rattle.basil_types.specs.Shown.{reads_left}
use Rattle.basil_types.specs.Transaction.{TransactionValue}
use Rattle.mv_store.specs.Store.{Stands}
use Rattle.serial_audit.specs.Parts.{all_told, first_with, stray_found}
use Rattle.serial_audit.specs.Strays.{strays_among}
use Rattle.serial_audit.proofs.strays.first_in.Given as goal

abbrev pub invariant-loop-item : goal.invariant-loop-item
invariant-loop-item l =
    (ts : List TransactionValue) → Stands l.writers (all_told (by_version ts)) [] →
    first_with (option_map stray_found l.fn.so_far) (strays_among ts l.reader l.place l.t.reads)
    ≡ first_with (option_map stray_found l.first) (strays_among ts l.reader l.place (reads_left l.item-iterator))
