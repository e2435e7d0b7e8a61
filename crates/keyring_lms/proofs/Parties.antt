-- Lists of parties: one more at a time, and which party is in them.
use Rattle.std.proofs.Common.{◌≡◌, ℕ, zero, suc, ◌+◌, ◌<◌, ◌≤◌, ◌==◌, ◌&&◌, ◌||◌, Bool, true, false}
use Rattle.std.proofs.Common.{List, [], ◌∷◌, ◌++◌, map, refl, sym, ap, ◌∙◌, append_assoc, arith}
use Rattle.std.specs.Prelude.{nat_le, nat_lt}
use Rattle.std.proofs.lemmas.Bool.{eqb-true, eqb-false, ltb-true, ltb-false, leb-true, leb-false, le-leb, lt-ltb, le-ltb}
use Rattle.std.proofs.lemmas.List.{append-nil}
use Rattle.std.proofs.lemmas.List.Folds.{list_any-append}
use Rattle.std.specs.List.{list_any, flat_map, range_with_len}

-- the pieces of one number more
flat_map-next : {X : Type 0} (f : ℕ → List X) (a n j : ℕ) → a + n ≡ j
    → flat_map f (range_with_len a (suc n)) ≡ flat_map f (range_with_len a n) ++ f j
flat_map-next f a zero j e =
    let same : a ≡ j = omega (arith, e) in
    ap (λ k. f k ++ []) same ∙ append-nil (f j)
flat_map-next f a (suc n) j e =
    let before = flat_map-next f (a + 1) n j (omega (arith, e)) in
    ap (λ later. f a ++ later) before ∙ sym (append_assoc (f a) (flat_map f (range_with_len (a + 1) n)) (f j))

pub flat_map-more : {X : Type 0} (f : ℕ → List X) (a n j : ℕ) → a + n ≡ j
    → flat_map f (range_with_len a (n + 1)) ≡ flat_map f (range_with_len a n) ++ f j
flat_map-more f a n j e =
    let more : n + 1 ≡ suc n = omega arith in
    ap (λ k. flat_map f (range_with_len a k)) more ∙ flat_map-next f a n j e

-- a test of what a map gives, and of what a map of lists gives
pub any-map : {X Y : Type 0} (test : Y → Bool) (f : X → Y) (xs : List X) → list_any test (map f xs) ≡ list_any (λ x. test (f x)) xs
any-map test f [] = refl
any-map test f (x ∷ xs) = ap (λ b. test (f x) || b) (any-map test f xs)

pub any-flat_map : {X Y : Type 0} (test : Y → Bool) (f : X → List Y) (xs : List X)
    → list_any test (flat_map f xs) ≡ list_any (λ x. list_any test (f x)) xs
any-flat_map test f [] = refl
any-flat_map test f (x ∷ xs) =
    list_any-append test (f x) (flat_map f xs) ∙ ap (λ b. list_any test (f x) || b) (any-flat_map test f xs)

-- two tests that agree, a test that a condition guards, and one that never passes
pub any-same : {X : Type 0} (f g : X → Bool) (xs : List X) → ((x : X) → f x ≡ g x) → list_any f xs ≡ list_any g xs
any-same f g [] h = refl
any-same f g (x ∷ xs) h = rw (h x, any-same f g xs h) refl

pub any-none : {X : Type 0} (xs : List X) → list_any (λ (x : X). false) xs ≡ false
any-none [] = refl
any-none (x ∷ xs) = any-none xs

pub any-guarded : {X : Type 0} (b : Bool) (test : X → Bool) (xs : List X) → list_any (λ x. b && test x) xs ≡ (b && list_any test xs)
any-guarded true test xs = refl
any-guarded false test xs = any-none xs

spread : (a b later : Bool) → ((a && b) || (later && b)) ≡ ((a || later) && b)
spread true true later = refl
spread true false true = refl
spread true false false = refl
spread false b later = refl

pub any-guarding : {X : Type 0} (b : Bool) (test : X → Bool) (xs : List X) → list_any (λ x. test x && b) xs ≡ (list_any test xs && b)
any-guarding b test [] = refl
any-guarding b test (x ∷ xs) = ap (λ later. (test x && b) || later) (any-guarding b test xs) ∙ spread (test x) b (list_any test xs)

-- a number is in a range, before it or behind it
above : (i a : ℕ) → a ≤ i → (a ≡ i → ⊥) → a + 1 ≤ i
above i a low apart = grind (arith, low, apart)

first-or_later : (a i : ℕ) (b later : Bool) → (a == i) ≡ b → (b ≡ false → later ≡ true) → (b || later) ≡ true
first-or_later a i true later e h = refl
first-or_later a i false later e h = h refl

neither : (a i : ℕ) (b : Bool) → (a == i) ≡ b → (a ≡ i → ⊥) → (b || false) ≡ false
neither a i true e h = absurd (h (eqb-true a i e))
neither a i false e h = refl

inside-range : (i a n : ℕ) → a ≤ i → i < a + n → list_any (λ k. k == i) (range_with_len a n) ≡ true
inside-range i a zero low high = absurd (omega (arith, low, high))
inside-range i a (suc n) low high =
    first-or_later a i (a == i) _ refl
    (λ other. let apart = eqb-false a i other in inside-range i (a + 1) n (above i a low apart) (omega (arith, high)))

before-range : (i a n : ℕ) → i < a → list_any (λ k. k == i) (range_with_len a n) ≡ false
before-range i a zero lt = refl
before-range i a (suc n) lt =
    rw (before-range i (a + 1) n (omega (arith, lt))) (neither a i (a == i) refl (λ e. absurd (omega (arith, lt, e))))

behind-range : (i a n : ℕ) → a + n ≤ i → list_any (λ k. k == i) (range_with_len a n) ≡ false
behind-range i a zero le = refl
behind-range i a (suc n) le =
    rw (behind-range i (a + 1) n (omega (arith, le))) (neither a i (a == i) refl (λ e. absurd (omega (arith, le, e))))

-- whether a number is in a range
range-ways : (i a n : ℕ) (low high : Bool) → nat_le a i ≡ low → nat_lt i (a + n) ≡ high
    → list_any (λ k. k == i) (range_with_len a n) ≡ (low && high)
range-ways i a n true true l h = inside-range i a n (leb-true a i l) (ltb-true i (a + n) h)
range-ways i a n true false l h = behind-range i a n (ltb-false i (a + n) h)
range-ways i a n false high l h = before-range i a n (leb-false a i l)

pub any-range : (i a n : ℕ) → list_any (λ k. k == i) (range_with_len a n) ≡ (nat_le a i && nat_lt i (a + n))
any-range i a n = range-ways i a n (nat_le a i) (nat_lt i (a + n)) refl refl

-- below a number, and from 1 to 16
pub any-below : (i n : ℕ) → list_any (λ k. k == i) (range_with_len 0 n) ≡ nat_lt i n
any-below i n =
    let least : nat_le 0 i ≡ true = le-leb 0 i (omega arith) in
    let most : 0 + n ≡ n = omega arith in
    any-range i 0 n ∙ rw (least, most) refl

below-next : (c : ℕ) (b : Bool) → nat_le c 16 ≡ b → nat_lt c 17 ≡ b
below-next c true e = let le = leb-true c 16 e in lt-ltb c 17 (omega (arith, le))
below-next c false e = let lt = leb-false c 16 e in le-ltb c 17 (omega (arith, lt))

pub any-client : (c : ℕ) → list_any (λ k. k == c) (range_with_len 1 16) ≡ (nat_le 1 c && nat_le c 16)
any-client c = any-range c 1 16 ∙ ap (λ b. nat_le 1 c && b) (below-next c (nat_le c 16) refl)
