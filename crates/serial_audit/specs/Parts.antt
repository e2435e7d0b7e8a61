-- What the parts of the code answer, beside the definitions.
use Rattle.std.specs.Prelude.{Bool, true, List, [], ◌∷◌, Option, Some, None, filter, fold, map}
use Rattle.std.specs.Borrow.{Bor}
use Rattle.std.specs.List.{reduce}
use Rattle.basil_types.specs.Replayed.{Versions}
use Rattle.basil_types.specs.Transaction.{TransactionValue, version_of}
use Rattle.basil_types.specs.Version.{below}
use Rattle.basil_types.specs.declared.version.Version.{Version}
use Rattle.mv_store.specs.Held.{Held}
use Rattle.serial_audit.specs.Strays.{Stray, earlier}
use Rattle.serial_audit.specs.declared.strays.Found.{Found}

abbrev pub is_under : Option Version → Version → Bool
is_under None v = true
is_under (Some bound) v = below v bound

-- those below a bound, or all of them
abbrev pub those_under : Option Version → List TransactionValue → List TransactionValue
those_under bound ts = filter (λ t. is_under bound (version_of t)) ts

-- lent transactions
abbrev pub lent : List (Bor TransactionValue) → List TransactionValue
lent ts = map (λ t. t.now) ts

-- and by their versions
abbrev pub lent_by_version : List (Version × Bor TransactionValue) → Versions
lent_by_version [] = []
lent_by_version (e ∷ es) = (e.0, e.1.now) ∷ lent_by_version es

-- transactions, as a store is told of them
abbrev pub told_of : TransactionValue → Held
told_of t = record { place = 0; committed = true; transaction = t }

abbrev pub all_told : List TransactionValue → List Held
all_told ts = map told_of ts

-- the first of these, where this was the first so far
abbrev pub first_with : Option Stray → List Stray → Option Stray
first_with None ss = reduce earlier ss
first_with (Some s) ss = Some (fold earlier s ss)

abbrev pub stray_found : Found → Stray
stray_found f = record {
  reader = f.reader;
  place = f.place;
  key = f.key.now;
  found = f.found;
  expected = f.expected;
}
