-- What may stand somewhere in a list.
use Rattle.std.specs.Prelude.{ℕ}

-- the item fits behind some other
pub record FitsItem {V : Type 0} (Fit : ℕ → V → Type 0) (v : V) : Type 0 where
  pub floor : ℕ
  pub fits : Fit floor v
