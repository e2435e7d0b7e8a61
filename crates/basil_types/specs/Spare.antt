-- A list, and the number of items that it can take without memory.
use Rattle.std.specs.Prelude.{ℕ, List}

pub record Spare (T : Type 0) : Type 0 where
  pub items : List T
  pub room : ℕ
