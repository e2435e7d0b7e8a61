-- Quorums of replicas of which something holds.
use Rattle.std.proofs.Common.{◌≡◌, ℕ, ◌+◌, ◌-◌, ◌<◌, ◌≤◌, Bool, false, arith}
use Rattle.std.proofs.lemmas.Bool.{and_parts, not-true}
use Rattle.quorum_laws.specs.Sets.{size, shared, others, Quorum}
use Rattle.quorum_laws.proofs.Counts.{sets_share, some_member, size_others}

module _ {n : ℕ} where
  -- what follows from P holds of as many
  pub weaker : {k : ℕ} (P Q : ℕ → Type 0) → ((r : ℕ) → r < n → P r → Q r) → Quorum n k P → Quorum n k Q
  weaker P Q f q = record { who = q.who; many = q.many; each = λ r h e. f r h (q.each r h e) }

  pub fewer : {k j : ℕ} (P : ℕ → Type 0) → j ≤ k → Quorum n k P → Quorum n j P
  fewer P h q = record { who = q.who; many = omega (arith, q.many); each = q.each }

  -- two quorums share k where their sizes leave no room for less
  pub both : {a b k : ℕ} (P Q : ℕ → Type 0) → n + k ≤ a + b → Quorum n a P → Quorum n b Q → Quorum n k (λ r. P r × Q r)
  both P Q h s t = record {
    who = shared s.who t.who;
    many = omega (arith, sets_share n s.who t.who, s.many, t.many);
    each = λ r l e. let w = and_parts (s.who r) (t.who r) e in (s.each r l w.0, t.each r l w.1);
  }

  pub one : {k : ℕ} (P : ℕ → Type 0) → 0 < k → Quorum n k P → (r : ℕ) × (r < n) × P r
  one P h q = let m = some_member q.who n (omega (arith, q.many)) in (m.0, m.1, q.each m.0 m.1 m.2)

-- all but the f that may be faulty
pub correct_of : {n f : ℕ} (faulty : ℕ → Bool) → size faulty n ≤ f → Quorum n (n - f) (λ r. faulty r ≡ false)
correct_of {n} faulty h = record { who = others faulty; many = omega (arith, size_others faulty n); each = λ r l e. not-true (faulty r) e }
