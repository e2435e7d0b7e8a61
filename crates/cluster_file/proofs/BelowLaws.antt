-- Numbers below one, tested in turn.
use Rattle.std.proofs.Common.{◌≡◌, ℕ, zero, suc, ◌+◌, ◌<◌, Bool, true, false, ◌&&◌, ◌⊎◌, inl, inr, sym, ap, subst, ◌∙◌}
use Rattle.std.proofs.Common.{arith, add-one}
use Rattle.std.proofs.lemmas.Bool.{and_parts, and_right, cases_lt}
use Rattle.cluster_file.specs.Seats.{all_below}

pub one_more : (p : ℕ → Bool) (n : ℕ) → all_below p n ≡ true → p n ≡ true → all_below p (n + 1) ≡ true
one_more p n before now = rw add-one (ap (λ b. b && p n) before ∙ now)

below_or_last : (n k : ℕ) → k < suc n → (k < n) ⊎ (k ≡ n)
below_or_last n k h = elim (cases_lt k n) [
  | inl earlier ↦ inl earlier
  | inr later ↦ inr (omega arith)
]

-- one that fails
pub one_fails : (p : ℕ → Bool) (n k : ℕ) → k < n → p k ≡ false → all_below p n ≡ false
one_fails p zero k h fails = absurd (omega arith)
one_fails p (suc n) k h fails = elim (below_or_last n k h) [
  | inl earlier ↦ ap (λ b. b && p n) (one_fails p n k earlier fails)
  | inr last ↦ and_right (all_below p n) (p n) (subst (λ (m : ℕ). p m ≡ false) last fails)
]

-- each passes
pub each_passes : (p : ℕ → Bool) (n k : ℕ) → all_below p n ≡ true → k < n → p k ≡ true
each_passes p zero k all h = absurd (omega arith)
each_passes p (suc n) k all h = elim (below_or_last n k h) [
  | inl earlier ↦ each_passes p n k (and_parts (all_below p n) (p n) all).0 earlier
  | inr last ↦ subst (λ (m : ℕ). p m ≡ true) (sym last) (and_parts (all_below p n) (p n) all).1
]
