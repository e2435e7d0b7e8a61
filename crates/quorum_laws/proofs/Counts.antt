-- How many numbers below n are in a set.
use Rattle.std.proofs.Common.{◌≡◌, ℕ, zero, suc, ◌+◌, ◌<◌, ◌≤◌, Bool, true, false, cond, not, ◌&&◌, refl, arith}
use Rattle.quorum_laws.specs.Sets.{size, shared, others, SomeMember}
use Rattle.quorum_laws.specs.Laws.{SetsShare}

-- one number more, by whether it is in each of the two sets and in one round both
step_shared : (a b m : Bool) (x y z w : ℕ) → (a ≡ true → m ≡ true) →
    (b ≡ true → m ≡ true) → x + y ≤ z + w → cond a (suc x) x + cond b (suc y) y ≤ cond m (suc z) z + cond (a && b) (suc w) w
step_shared true true true x y z w f g h = omega arith
step_shared true false true x y z w f g h = omega arith
step_shared false true true x y z w f g h = omega arith
step_shared false false true x y z w f g h = omega arith
step_shared false false false x y z w f g h = omega arith
step_shared true b false x y z w f g h = let e : false ≡ true = f refl in cc
step_shared false true false x y z w f g h = let e : false ≡ true = g refl in cc

-- two parts of a set share what it has no room for
pub shared_within : (p q m : ℕ → Bool) (n : ℕ) → ((r : ℕ) → r < n → p r ≡ true → m r ≡ true) →
    ((r : ℕ) → r < n → q r ≡ true → m r ≡ true) → size p n + size q n ≤ size m n + size (shared p q) n
shared_within p q m zero f g = omega arith
shared_within p q m (suc n) f g = step_shared (p n) (q n)
    (m n) _ _ _ _ (f n (omega arith)) (g n (omega arith)) (shared_within p q m n (λ r h. f r (omega arith)) (λ r h. g r (omega arith)))

size_all : (n : ℕ) → size (λ _. true) n ≡ n
size_all zero = refl
size_all (suc n) = let e = size_all n in omega arith

pub sets_share : SetsShare
sets_share n p q = let h = shared_within p q (λ _. true) n (λ _ _ _. refl) (λ _ _ _. refl) in let e = size_all n in omega arith

-- a set with a member is not empty, and the other way round
member_at : (p : ℕ → Bool) (n : ℕ) (b : Bool) →
    p n ≡ b → 0 < cond b (suc (size p n)) (size p n) → (0 < size p n → SomeMember p n) → SomeMember p (suc n)
member_at p n true e h k = (n, omega arith, e)
member_at p n false e h k = let m = k h in (m.0, omega (arith, m.1), m.2)

pub some_member : (p : ℕ → Bool) (n : ℕ) → 0 < size p n → SomeMember p n
some_member p zero h = absurd (omega arith)
some_member p (suc n) h = member_at p n (p n) refl h (λ k. some_member p n k)

-- the members and the others are all
pub size_others : (p : ℕ → Bool) (n : ℕ) → size p n + size (others p) n ≡ n
size_others p zero = refl
size_others p (suc n) = let e = size_others p n in elim (p n) as (λ b. cond b (suc (size p n)) (size p n)
    + cond (not b) (suc (size (others p) n)) (size (others p) n) ≡ suc n) [ true ↦ omega arith | false ↦ omega arith ]

-- equal below n, so as many
pub size_same : (p q : ℕ → Bool) (n : ℕ) → ((r : ℕ) → r < n → p r ≡ q r) → size p n ≡ size q n
size_same p q zero f = refl
size_same p q (suc n) f = let e = size_same p q n (λ r h. f r (omega arith)) in rw (f n (omega arith), e) refl
