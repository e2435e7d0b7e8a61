-- A frame that is being appended.
use Rattle.std.specs.Prelude.{◌≡◌, ℕ, List, ◌++◌}

-- the bytes that stay as they are, and what is written behind them so far
pub record DraftValue : Type 0 where
  pub kept : List ℕ
  pub written : List ℕ

-- these bytes are written
abbrev pub Writes : DraftValue → DraftValue → List ℕ → Type 0
Writes old new bytes = new.written ≡ old.written ++ bytes
