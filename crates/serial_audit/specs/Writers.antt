-- Transactions whose versions ascend.
use Rattle.std.specs.Prelude.{◌≡◌, true, List, [], ◌∷◌}
use Rattle.std.specs.List.{Contains}
use Rattle.basil_types.specs.Transaction.{TransactionValue, version_of}
use Rattle.basil_types.specs.Version.{below}

-- each is below all behind it
abbrev pub IsRising : List TransactionValue → Type 0
IsRising [] = Unit {0}
IsRising (t ∷ ts) = ((u : TransactionValue) → Contains ts u → below (version_of t) (version_of u) ≡ true) × IsRising ts
