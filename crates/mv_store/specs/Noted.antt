-- Noted reads, each a time and a client.
use Rattle.std.specs.Prelude.{ℕ, Bool, false, Option, None, Some, if◌then◌else◌}
use Rattle.std.specs.Ordering.{nat_cmp, ordering_then, is_lt}

-- by time, then by client
abbrev pub comes_before : ℕ × ℕ → ℕ × ℕ → Bool
comes_before a b = is_lt (ordering_then (nat_cmp a.0 b.0) (nat_cmp a.1 b.1))

-- whether the greatest noted read comes behind this one
abbrev pub is_above : Option (ℕ × ℕ) → ℕ × ℕ → Bool
is_above None read = false
is_above (Some greatest) read = comes_before read greatest

-- the greatest noted read, with one more
abbrev pub greatest : Option (ℕ × ℕ) → ℕ × ℕ → ℕ × ℕ
greatest None read = read
greatest (Some noted) read = if comes_before noted read then read else noted
