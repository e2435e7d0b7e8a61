use Rattle.std.specs.Prelude.{◌≡◌, ℕ, zero, suc, ◌<◌, ◌≤◌, ◌==◌, Bool, true, cond, not, ◌&&◌}
use Rattle.std.specs.Int.{bit_at}

-- a set of replicas is a test of their numbers; how many numbers below n are in it
abbrev pub size : (ℕ → Bool) → ℕ → ℕ
size p zero = 0
size p (suc n) = cond (p n) (suc (size p n)) (size p n)

-- the common members
abbrev pub shared : (ℕ → Bool) → (ℕ → Bool) → ℕ → Bool
shared p q r = p r && q r

-- those that are not in it
abbrev pub others : (ℕ → Bool) → ℕ → Bool
others p r = not (p r)

-- the set whose members are the numbers of the bits that are 1
abbrev pub members : ℕ → ℕ → Bool
members mask r = bit_at mask r == 1

-- some number below n that is in the set
abbrev pub SomeMember : (ℕ → Bool) → ℕ → Type 0
SomeMember p n = (r : ℕ) × (r < n) × (p r ≡ true)

-- a set of at least k numbers below n, of each of which P holds
pub record Quorum (n k : ℕ) (P : ℕ → Type 0) : Type 0 where
  pub who : ℕ → Bool
  pub many : k ≤ size who n
  pub each : (r : ℕ) → r < n → who r ≡ true → P r
