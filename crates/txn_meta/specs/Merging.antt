-- Two ascending lists, walked side by side.
use Rattle.std.specs.Prelude.{ℕ, Bool, false, List, [], ◌∷◌, Option, Some, None, if◌then◌else◌}
use Rattle.std.specs.Str.{bytes_eq}
use Rattle.basil_types.specs.declared.transaction.parts.WriteItem.{WriteItem}
use Rattle.basil_types.specs.declared.transaction.parts.WritePart.{WritePart}
use Rattle.basil_types.specs.declared.transaction.lists.WritesIter.{WritesIter}
use Rattle.basil_types.specs.Shown.{write_of, writes_left}
use Rattle.basil_types.specs.Texts.{key_below}

-- the next write, and those behind it
abbrev pub ahead : Option WriteItem → WritesIter → List WritePart
ahead None rest = []
ahead (Some w) rest = write_of w ∷ writes_left rest

-- those from the first on whose key isn't below this one
abbrev pub from_key : List ℕ → List WritePart → List WritePart
from_key key [] = []
from_key key (w ∷ ws) = if key_below w.key key then from_key key ws else w ∷ ws

-- whether the next of them is of this key
abbrev pub begins_at : List ℕ → List WritePart → Bool
begins_at key [] = false
begins_at key (w ∷ ws) = bytes_eq w.key key
