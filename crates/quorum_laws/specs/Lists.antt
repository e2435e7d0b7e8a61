use Rattle.std.specs.Prelude.{◌≡◌, ℕ, suc, ◌<◌, ◌≤◌, ◌==◌, Bool, List, [], ◌∷◌, length}
use Rattle.std.specs.List.{list_any}
use Rattle.quorum_laws.specs.Sets.{size}

-- Replicas as a message lists them: strictly ascending.

-- each number is at least the floor, above the one before it, and below n
abbrev pub AreRising : (floor n : ℕ) → List ℕ → Type 0
AreRising floor n [] = Unit {0}
AreRising floor n (r ∷ rs) = (floor ≤ r) × (r < n) × AreRising (suc r) n rs

-- the set of the numbers of a list
abbrev pub listed : List ℕ → ℕ → Bool
listed rs r = list_any (λ k. k == r) rs

-- such a list is a set of as many members
abbrev pub ListsAreSets : Type 0
ListsAreSets = (n : ℕ) (rs : List ℕ) → AreRising 0 n rs → size (listed rs) n ≡ length rs
