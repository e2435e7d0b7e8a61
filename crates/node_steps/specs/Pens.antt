-- The place of a pen: how many signatures it gave, and how many it has left.
use Rattle.std.specs.Prelude.{◌≡◌, ℕ, ◌+◌, ◌-◌, ◌<◌, List, length}
use Rattle.keyring.specs.Signing.{Signing}

pub record PenValue : Type 0 where
  pub spent : ℕ
  pub left : ℕ

abbrev pub pen_value : ℕ → ℕ → PenValue
pen_value spent left = record { spent = spent; left = left }

-- after one signature
abbrev pub after_one : PenValue → PenValue
after_one pen = record { spent = pen.spent + 1; left = pen.left - 1 }

-- each signature that the pen still gives has the size of its signatures
abbrev pub GivesItsSize : Signing → PenValue → Type 0
GivesItsSize signing pen =
    (place : ℕ) (words : List ℕ) → place < pen.spent + pen.left → length (signing.gives place words) ≡ signing.size
