-- What an append leaves where a stop is foreseen within it.
use Rattle.std.specs.Prelude.{◌≡◌, ◌⊎◌, ◌++◌, List, [], ◌∷◌, Bool, true, false, ◌&&◌, ◌==◌, slice_index}
use Rattle.journal_disk.specs.Foreseen.{Foreseen}
use Rattle.journal_records.specs.declared.gates.TheConstants.{OPEN}

-- it comes in the write of the record, or in that of the gate
abbrev pub IsNear : Foreseen → Type 0
IsNear stop = (stop.left ≡ 1) ⊎ (stop.left ≡ 2)

-- those, and the one more where it is so
abbrev pub and_if : {T : Type 0} → Bool → List T → T → List T
and_if true all one = all ++ one ∷ []
and_if false all one = all

-- the first byte that the stop leaves is that of an open gate
abbrev pub leaves_open : Foreseen → Bool
leaves_open foreseen = slice_index foreseen.stop.bytes 0 == OPEN

-- those, and the one more where the stop comes in the write of the gate and leaves it open
abbrev pub after_stop : {T : Type 0} → Foreseen → List T → T → List T
after_stop stop all one = and_if (stop.left == 2 && leaves_open stop) all one
