-- The form of a transaction.
use Rattle.std.specs.Prelude.{ℕ, List, Bool, not, ◌==◌, ◌&&◌, length, Option}
use Rattle.std.specs.Prelude.{Some, is_none, option_map, position, if◌then◌else◌}
use Rattle.basil_types.specs.declared.version.Version.{Version}
use Rattle.basil_types.specs.declared.transaction.parts.ReadPart.{ReadPart}
use Rattle.basil_types.specs.Version.{below}
use Rattle.basil_types.specs.Transaction.{TransactionValue, version_of}
use Rattle.txn_meta.specs.declared.form.FormFault.{FormFault}
use Rattle.txn_meta.specs.declared.form.FormFault.TheVariants.{Empty, ZeroTime, ReadNotBelow}

-- the first read of a version that isn't below this one
abbrev pub first_not_below : Version → List ReadPart → Option ℕ
first_not_below version reads = position (λ r. not (below r.version version)) reads

abbrev pub is_empty : TransactionValue → Bool
is_empty t = length t.reads == 0 && length t.writes == 0

abbrev pub form_fault : TransactionValue → Option FormFault
form_fault t =
    if is_empty t then Some Empty
    else (if t.time == 0 then Some ZeroTime else option_map ReadNotBelow (first_not_below (version_of t) t.reads))

abbrev pub has_good_form : TransactionValue → Bool
has_good_form t = is_none (form_fault t)
