-- Ascending lists as sets.
use Rattle.std.proofs.Common.{◌≡◌, ℕ, zero, suc, ◌<◌, ◌≤◌, ◌==◌, Bool, true, false, cond, ◌||◌}
use Rattle.std.proofs.Common.{refl, arith, inl, inr, ◌∙◌, ap, subst, List, [], ◌∷◌, length}
use Rattle.std.proofs.lemmas.Bool.{cases_eq, eq-eqb, ne_eqb}
use Rattle.quorum_laws.specs.Sets.{size, Quorum}
use Rattle.quorum_laws.specs.Lists.{AreRising, listed, ListsAreSets}
use Rattle.quorum_laws.proofs.Counts.{size_same}

-- one member more
pub size_add : (p : ℕ → Bool) (x n : ℕ) → x < n → p x ≡ false → size (λ r. (x == r) || p r) n ≡ suc (size p n)
size_add p x zero h e = absurd (omega arith)
size_add p x (suc n) h e = elim (cases_eq x n) [
  | inl i ↦
      let z : p n ≡ false = subst (λ (k : ℕ). p k ≡ false) i e in
      let w : size (λ r. (x == r) || p r) n ≡ size p n =
      size_same (λ r. (x == r) || p r) p n (λ r l. ap (λ b. b || p r) (ne_eqb x r (λ j. omega arith))) in
      rw (eq-eqb x n i, z) (ap suc w)
  | inr i ↦
      let w = size_add p x n (omega arith) e in
      rw (ne_eqb x n i) (elim (p n) as (λ b. cond b (suc (size (λ r. (x == r) || p r) n)) (size (λ r. (x == r) || p r) n)
      ≡ suc (cond b (suc (size p n)) (size p n))) [ true ↦ ap suc w | false ↦ w ])
]

-- nothing below the floor is listed
pub not_listed : (floor n j : ℕ) (rs : List ℕ) → j < floor → AreRising floor n rs → listed rs j ≡ false
not_listed floor n j [] h a = refl
not_listed floor n j (r ∷ rs) h a =
    rw (ne_eqb r j (λ e. let l = a.0 in omega arith)) (not_listed (suc r) n j rs (let l = a.0 in omega arith) a.2)

pub size_listed : (floor n : ℕ) (rs : List ℕ) → AreRising floor n rs → size (listed rs) n ≡ length rs
size_listed floor n [] a = size_none n where
  size_none : (n : ℕ) → size (λ _. false) n ≡ 0
  size_none zero = refl
  size_none (suc n) = size_none n
size_listed floor n (r ∷ rs) a =
    size_add (listed rs) r n a.1 (not_listed (suc r) n r rs (omega arith) a.2) ∙ ap suc (size_listed (suc r) n rs a.2)

pub lists_are_sets : ListsAreSets
lists_are_sets n rs a = size_listed 0 n rs a

-- a quorum from a list of it
pub of_list : (n k : ℕ) (P : ℕ → Type 0) (rs : List ℕ) →
    AreRising 0 n rs → k ≤ length rs → ((r : ℕ) → listed rs r ≡ true → P r) → Quorum n k P
of_list n k P rs a h f = record { who = listed rs; many = omega (arith, lists_are_sets n rs a); each = λ r _ e. f r e }
