-- Lists from the front on, one item after the other.
use Rattle.std.proofs.Common.{◌≡◌, ℕ, zero, suc, ◌+◌, ◌<◌, ◌≤◌, Bool, true, false, cond, List, [], ◌∷◌, ◌++◌}
use Rattle.std.proofs.Common.{length, take, filter, Option, Some, None, refl, sym, ap, ◌∙◌, arith, add-one}
use Rattle.std.specs.Prelude.{slice_get, filter_map, ◌||◌, ◌&&◌}
use Rattle.std.specs.List.{list_any, list_all, enumerate_from, cons_option}
use Rattle.std.specs.Option.{option_and_then}
use Rattle.std.proofs.lemmas.List.{append-nil}
use Rattle.std.proofs.lemmas.List.Elements.{filter-append, filter_map-append}
use Rattle.std.proofs.lemmas.Option.{slice_get_within}
use Rattle.std.proofs.lemmas.List.Folds.{list_any-append, list_all-append}

or_false : (a : Bool) → (a || false) ≡ a
or_false true = refl
or_false false = refl

and_true : (a : Bool) → (a && true) ≡ a
and_true true = refl
and_true false = refl

module _ {A : Type 0} where
  take_here' : (xs : List A) (i : ℕ) (x : A) → slice_get xs i ≡ Some x → take (suc i) xs ≡ take i xs ++ x ∷ []
  take_here' [] i x e = absurd cc
  take_here' (y ∷ ys) zero x e = let same : y ≡ x = cc in ap (λ z. z ∷ []) same
  take_here' (y ∷ ys) (suc i) x e = ap (λ zs. y ∷ zs) (take_here' ys i x e)

  pub take_here : (xs : List A) (i : ℕ) (x : A) → slice_get xs i ≡ Some x → take (i + 1) xs ≡ take i xs ++ x ∷ []
  take_here xs i x e = rw add-one (take_here' xs i x e)

  pub take_past : (xs : List A) (i : ℕ) → slice_get xs i ≡ None → take i xs ≡ xs
  take_past [] zero e = refl
  take_past [] (suc i) e = refl
  take_past (y ∷ ys) zero e = absurd cc
  take_past (y ∷ ys) (suc i) e = ap (λ zs. y ∷ zs) (take_past ys i e)

  pub take_short : (xs : List A) (i : ℕ) → length xs ≤ i → take i xs ≡ xs
  take_short [] zero h = refl
  take_short [] (suc i) h = refl
  take_short (y ∷ ys) zero h = absurd (omega arith)
  take_short (y ∷ ys) (suc i) h = ap (λ zs. y ∷ zs) (take_short ys i (omega arith))

  -- one more item that passes, and one that doesn't
  pub passed_more : (q : A → Bool) (xs : List A) (i : ℕ) (x : A) → slice_get xs i ≡ Some x → q x ≡ true
      → filter q (take (i + 1) xs) ≡ filter q (take i xs) ++ x ∷ []
  passed_more q xs i x e h =
      ap (filter q) (take_here xs i x e) ∙ filter-append q (take i xs) (x ∷ []) ∙ ap (λ b. filter q (take i xs) ++ cond b (x ∷ []) []) h

  pub passed_same : (q : A → Bool) (xs : List A) (i : ℕ) (x : A) → slice_get xs i ≡ Some x → q x ≡ false
      → filter q (take (i + 1) xs) ≡ filter q (take i xs)
  passed_same q xs i x e h =
      ap (filter q) (take_here xs i x e) ∙ filter-append q (take i xs) (x ∷ []) ∙ ap (λ b. filter q (take i xs) ++ cond b (x ∷ []) []) h
      ∙ append-nil (filter q (take i xs))

  pub any_more : (p : A → Bool) (xs : List A) (x : A) → list_any p (xs ++ x ∷ []) ≡ (list_any p xs || p x)
  any_more p xs x = list_any-append p xs (x ∷ []) ∙ ap (λ b. list_any p xs || b) (or_false (p x))

  pub all_more : (p : A → Bool) (xs : List A) (x : A) → list_all p (xs ++ x ∷ []) ≡ (list_all p xs && p x)
  all_more p xs x = list_all-append p xs (x ∷ []) ∙ ap (λ b. list_all p xs && b) (and_true (p x))

  -- ---- items beside their places

  enumerate_more : (n : ℕ) (xs : List A) (x : A) → enumerate_from n (xs ++ x ∷ []) ≡ enumerate_from n xs ++ (n + length xs, x) ∷ []
  enumerate_more n [] x = let e : n ≡ n + 0 = omega arith in ap (λ k. (k, x) ∷ []) e
  enumerate_more n (y ∷ xs) x =
      let e : (n + 1) + length xs ≡ n + suc (length xs) = omega arith in
      ap (λ l. (n, y) ∷ l) (enumerate_more (n + 1) xs x ∙ ap (λ k. enumerate_from (n + 1) xs ++ (k, x) ∷ []) e)

  length_take : (xs : List A) (i : ℕ) → i < length xs → length (take i xs) ≡ i
  length_take [] i h = absurd (omega arith)
  length_take (x ∷ xs) zero h = refl
  length_take (x ∷ xs) (suc i) h = ap suc (length_take xs i (omega arith))

  pub given_more : {Y : Type 0} (f : ℕ × A → Option Y) (xs : List A) (i : ℕ) (x : A) → slice_get xs i ≡ Some x
      → filter_map f (enumerate_from 0 (take (i + 1) xs)) ≡ filter_map f (enumerate_from 0 (take i xs)) ++ filter_map f ((i, x) ∷ [])
  given_more f xs i x e =
      let front : 0 + length (take i xs) ≡ i = omega (arith, length_take xs i (slice_get_within xs i x e)) in
      ap (λ l. filter_map f (enumerate_from 0 l)) (take_here xs i x e)
      ∙ ap (filter_map f) (enumerate_more 0 (take i xs) x)
      ∙ filter_map-append f (enumerate_from 0 (take i xs)) ((0 + length (take i xs), x) ∷ [])
      ∙ ap (λ k. filter_map f (enumerate_from 0 (take i xs)) ++ filter_map f ((k, x) ∷ [])) front

  pub found_at : (xs : List A) (i : ℕ) → i < length xs → (x : A) × (slice_get xs i ≡ Some x)
  found_at [] i h = absurd (omega arith)
  found_at (x ∷ xs) zero h = (x, refl)
  found_at (x ∷ xs) (suc i) h = found_at xs i (omega arith)

  -- what is given of the items from the front on, with one more that gives something, and one that gives nothing
  pub given_some : {Y : Type 0} (f : ℕ × A → Option Y) (xs : List A) (i : ℕ) (x : A) (y : Y) (ys ys' : List Y) → slice_get xs i ≡ Some x
      → f (i, x) ≡ Some y → ys ≡ filter_map f (enumerate_from 0 (take i xs)) → ys' ≡ ys ++ y ∷ []
      → ys' ≡ filter_map f (enumerate_from 0 (take (i + 1) xs))
  given_some f xs i x y ys ys' at some was more =
      more ∙ ap (λ l. l ++ y ∷ []) was
      ∙ sym (given_more f xs i x at ∙ ap (λ o. filter_map f (enumerate_from 0 (take i xs)) ++ cons_option o []) some)

  pub given_none : {Y : Type 0} (f : ℕ × A → Option Y) (xs : List A) (i : ℕ) (x : A) (ys : List Y) → slice_get xs i ≡ Some x
      → f (i, x) ≡ None → ys ≡ filter_map f (enumerate_from 0 (take i xs)) → ys ≡ filter_map f (enumerate_from 0 (take (i + 1) xs))
  given_none f xs i x ys at none was =
      was ∙ sym (given_more f xs i x at ∙ ap (λ o. filter_map f (enumerate_from 0 (take i xs)) ++ cons_option o []) none
      ∙ append-nil (filter_map f (enumerate_from 0 (take i xs))))

-- nothing stands past the end
pub past : {A : Type 0} (xs : List A) (i : ℕ) → length xs ≤ i → slice_get xs i ≡ None
past [] i h = refl
past (x ∷ xs) zero h = absurd (omega arith)
past (x ∷ xs) (suc i) h = past xs i (omega arith)

past_take' : {A : Type 0} (xs : List A) (i : ℕ) → slice_get xs i ≡ None → take (suc i) xs ≡ take i xs
past_take' [] zero e = refl
past_take' [] (suc i) e = refl
past_take' (x ∷ xs) zero e = absurd cc
past_take' (x ∷ xs) (suc i) e = ap (λ l. x ∷ l) (past_take' xs i e)

past_take : {A : Type 0} (xs : List A) (i : ℕ) → slice_get xs i ≡ None → take (i + 1) xs ≡ take i xs
past_take xs i e = rw add-one (past_take' xs i e)

abbrev cons_back : {Y : Type 0} → List Y → Option Y → List Y
cons_back ys None = ys
cons_back ys (Some y) = ys ++ y ∷ []

-- what is given of the items from the front on, with one more
module _ {A Y : Type 0} (g : A → Option Y) (xs : List A) (i : ℕ) where
  step : (o : Option A) → slice_get xs i ≡ o
      → filter_map g (take (i + 1) xs) ≡ cons_back (filter_map g (take i xs)) (option_and_then g o)
  step None e = ap (filter_map g) (past_take xs i e)
  step (Some x) e = ap (filter_map g) (take_here xs i x e) ∙ filter_map-append g (take i xs) (x ∷ []) ∙ by (g x)
    where
      by : (o : Option Y) → filter_map g (take i xs) ++ cons_option o [] ≡ cons_back (filter_map g (take i xs)) o
      by None = append-nil (filter_map g (take i xs))
      by (Some y) = refl

  pub gives_some : (y : Y) (ys ys' : List Y) → option_and_then g (slice_get xs i) ≡ Some y → ys ≡ filter_map g (take i xs)
      → ys' ≡ ys ++ y ∷ [] → ys' ≡ filter_map g (take (i + 1) xs)
  gives_some y ys ys' some was more =
      more ∙ ap (λ l. l ++ y ∷ []) was ∙ sym (step (slice_get xs i) refl ∙ ap (cons_back (filter_map g (take i xs))) some)

  pub gives_none : (ys : List Y) → option_and_then g (slice_get xs i) ≡ None → ys ≡ filter_map g (take i xs)
      → ys ≡ filter_map g (take (i + 1) xs)
  gives_none ys none was = was ∙ sym (step (slice_get xs i) refl ∙ ap (cons_back (filter_map g (take i xs))) none)
