-- Walks along a list, one item after the other.
use Rattle.std.proofs.Common.{◌≡◌, ℕ, zero, suc, ◌+◌, ◌≤◌, Bool, true, false, cond, List, [], ◌∷◌}
use Rattle.std.proofs.Common.{length, drop, Option, Some, None, refl, ap, ◌∙◌, arith, add-one}
use Rattle.std.specs.Prelude.{slice_get, option_map, position, ◌||◌, ◌==◌}
use Rattle.std.specs.List.{list_any}
use Rattle.std.proofs.lemmas.Grind.{common_steps}

drop_here' : {A : Type 0} (xs : List A) (i : ℕ) (x : A) → slice_get xs i ≡ Some x → drop i xs ≡ x ∷ drop (suc i) xs
drop_here' [] i x e = absurd cc
drop_here' (y ∷ ys) zero x e = let same : y ≡ x = cc in ap (λ z. z ∷ ys) same
drop_here' (y ∷ ys) (suc i) x e = drop_here' ys i x e

pub drop_here : {A : Type 0} (xs : List A) (i : ℕ) (x : A) → slice_get xs i ≡ Some x → drop i xs ≡ x ∷ drop (i + 1) xs
drop_here xs i x e = rw add-one (drop_here' xs i x e)

pub drop_past : {A : Type 0} (xs : List A) (i : ℕ) → slice_get xs i ≡ None → drop i xs ≡ []
drop_past [] zero e = refl
drop_past [] (suc i) e = refl
drop_past (y ∷ ys) zero e = absurd cc
drop_past (y ∷ ys) (suc i) e = drop_past ys i e

pub drop_short : {A : Type 0} (xs : List A) (i : ℕ) → length xs ≤ i → drop i xs ≡ []
drop_short [] zero h = refl
drop_short [] (suc i) h = refl
drop_short (y ∷ ys) zero h = absurd (omega arith)
drop_short (y ∷ ys) (suc i) h = drop_short ys i (omega arith)

-- ---- whether some item passes

pub any_met : {A : Type 0} (p : A → Bool) (xs : List A) (i : ℕ) (x : A) → slice_get xs i ≡ Some x → p x ≡ true → list_any p (drop i xs)
    ≡ true
any_met p xs i x e h = ap (list_any p) (drop_here xs i x e) ∙ ap (λ b. b || list_any p (drop (i + 1) xs)) h

pub any_passed : {A : Type 0} (p : A → Bool) (xs : List A) (i : ℕ) (x : A) → slice_get xs i ≡ Some x → p x ≡ false → list_any p (drop i xs)
    ≡ list_any p (drop (i + 1) xs)
any_passed p xs i x e h = ap (list_any p) (drop_here xs i x e) ∙ ap (λ b. b || list_any p (drop (i + 1) xs)) h

pub any_past : {A : Type 0} (p : A → Bool) (xs : List A) (i : ℕ) → slice_get xs i ≡ None → list_any p (drop i xs) ≡ false
any_past p xs i e = ap (list_any p) (drop_past xs i e)

pub any_short : {A : Type 0} (p : A → Bool) (xs : List A) (i : ℕ) → length xs ≤ i → list_any p (drop i xs) ≡ false
any_short p xs i h = ap (list_any p) (drop_short xs i h)

-- ---- the first item that passes

pub position-cons : {A : Type 0} (p : A → Bool) (x : A) (xs : List A) → position p (x ∷ xs) ≡ cond (p x) (Some 0)
    (option_map (λ k. k + 1) (position p xs))
position-cons p x xs = by (p x) refl
  where
    by : (b : Bool) → p x ≡ b → position p (x ∷ xs) ≡ cond b (Some 0) (option_map (λ k. k + 1) (position p xs))
    by true e = grind (arith, common_steps)
    by false e = grind (arith, common_steps)

shifted : (i : ℕ) (o : Option ℕ) → option_map (λ k. i + k) (option_map (λ k. k + 1) o) ≡ option_map (λ k. (i + 1) + k) o
shifted i None = refl
shifted i (Some k) = let e : i + (k + 1) ≡ (i + 1) + k = omega arith in ap Some e

first_at : {A : Type 0} (p : A → Bool) (xs : List A) (i : ℕ) (x : A) → slice_get xs i ≡ Some x → option_map (λ k. i + k)
    (position p (drop i xs)) ≡ option_map (λ k. i + k) (cond (p x) (Some 0) (option_map (λ k. k + 1) (position p (drop (i + 1) xs))))
first_at p xs i x e =
    ap (λ ys. option_map (λ k. i + k) (position p ys)) (drop_here xs i x e) ∙ ap (option_map (λ k. i + k))
    (position-cons p x (drop (i + 1) xs))

pub first_met : {A : Type 0} (p : A → Bool) (xs : List A) (i : ℕ) (x : A) → slice_get xs i ≡ Some x → p x ≡ true → option_map (λ k. i + k)
    (position p (drop i xs)) ≡ Some i
first_met p xs i x e h =
    let here : i + 0 ≡ i = omega arith in
    first_at p xs i x e ∙ ap (λ b. option_map (λ k. i + k) (cond b (Some 0) (option_map (λ k. k + 1) (position p (drop (i + 1) xs))))) h
    ∙ ap Some here

pub first_passed : {A : Type 0} (p : A → Bool) (xs : List A) (i : ℕ) (x : A) → slice_get xs i ≡ Some x → p x ≡ false → option_map
    (λ k. i + k) (position p (drop i xs)) ≡ option_map (λ k. (i + 1) + k) (position p (drop (i + 1) xs))
first_passed p xs i x e h =
    first_at p xs i x e ∙ ap (λ b. option_map (λ k. i + k) (cond b (Some 0) (option_map (λ k. k + 1) (position p (drop (i + 1) xs))))) h
    ∙ shifted i (position p (drop (i + 1) xs))

pub first_past : {A : Type 0} (p : A → Bool) (xs : List A) (i : ℕ) → slice_get xs i ≡ None → option_map (λ k. i + k)
    (position p (drop i xs)) ≡ None
first_past p xs i e = ap (λ ys. option_map (λ k. i + k) (position p ys)) (drop_past xs i e)

pub first_short : {A : Type 0} (p : A → Bool) (xs : List A) (i : ℕ) → length xs ≤ i → option_map (λ k. i + k) (position p (drop i xs))
    ≡ None
first_short p xs i h = ap (λ ys. option_map (λ k. i + k) (position p ys)) (drop_short xs i h)

-- ---- tests of numbers

pub same : (a b : ℕ) → a ≡ b → (a == b) ≡ true
same a b e = grind (arith, common_steps)

pub other : (a b : ℕ) → (a ≡ b → ⊥) → (a == b) ≡ false
other a b e = grind (arith, common_steps)

-- the place of the first that passes, counted from i
abbrev pub place_from : {A : Type 0} → (A → Bool) → ℕ → List A → Option ℕ
place_from p i xs = option_map (λ k. i + k) (position p xs)

pub place_here : {A : Type 0} (p : A → Bool) (i : ℕ) (x : A) (xs : List A) → p x ≡ true → place_from p i (x ∷ xs) ≡ Some i
place_here p i x xs h =
    let here : i + 0 ≡ i = omega arith in
    ap (option_map (λ k. i + k)) (position-cons p x xs ∙ ap (λ b. cond b (Some 0) (option_map (λ k. k + 1) (position p xs))) h)
    ∙ ap Some here

pub place_later : {A : Type 0} (p : A → Bool) (i : ℕ) (x : A) (xs : List A) → p x ≡ false → place_from p i (x ∷ xs) ≡ place_from p
    (i + 1) xs
place_later p i x xs h =
    ap (option_map (λ k. i + k)) (position-cons p x xs ∙ ap (λ b. cond b (Some 0) (option_map (λ k. k + 1) (position p xs))) h) ∙ shifted i
    (position p xs)

pub place_all : {A : Type 0} (p : A → Bool) (xs : List A) → place_from p 0 xs ≡ position p xs
place_all p xs = by (position p xs)
  where
    by : (o : Option ℕ) → option_map (λ k. 0 + k) o ≡ o
    by None = refl
    by (Some k) = let e : 0 + k ≡ k = omega arith in ap Some e
