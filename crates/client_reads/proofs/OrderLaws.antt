-- The greatest of a list in a total order.
use Rattle.std.proofs.Common.{◌≡◌, ◌⊎◌, inl, inr, Bool, true, false, cond, List, [], ◌∷◌, refl, ap, ◌∙◌, subst}
use Rattle.std.specs.Prelude.{fold, filter}
use Rattle.std.specs.List.{list_any, list_all}
use Rattle.std.specs.Ordering.{ord_max, is_lt, is_gt, ordering_reverse}
use Rattle.std.specs.Cmp.{IsTotalOrder, tied_itself, upto}
use Rattle.std.specs.declared.cmp.Ordering.{Ordering}
use Rattle.std.specs.declared.cmp.Ordering.TheVariants.{Less, Equal, Greater}
use Rattle.std.proofs.lemmas.Bool.{and_parts, or_cases}

turned : (r : Ordering) → is_gt (ordering_reverse r) ≡ is_lt r
turned Less = refl
turned Equal = refl
turned Greater = refl

less_within : (r : Ordering) → is_lt r ≡ true → is_gt r ≡ false
less_within Less e = refl
less_within Equal e = refl
less_within Greater e = absurd cc

module _ {K : Type 0} {R : K → K → Ordering} (o : IsTotalOrder R) where
  itself_within : (x : K) → is_gt (R x x) ≡ false
  itself_within x = ap is_gt (tied_itself o x)

  pub not_less : (x y : K) → is_gt (R x y) ≡ is_lt (R y x)
  not_less x y = ap is_gt (o.antisymm x y) ∙ turned (R y x)

  first_within : (a b : K) → is_gt (R a (ord_max R a b)) ≡ false
  first_within a b = by (is_lt (R b a)) refl
    where
      by : (t : Bool) → is_lt (R b a) ≡ t → is_gt (R a (cond t a b)) ≡ false
      by true e = itself_within a
      by false e = not_less a b ∙ e

  second_within : (a b : K) → is_gt (R b (ord_max R a b)) ≡ false
  second_within a b = by (is_lt (R b a)) refl
    where
      by : (t : Bool) → is_lt (R b a) ≡ t → is_gt (R b (cond t a b)) ≡ false
      by true e = less_within (R b a) e
      by false e = itself_within b

  -- nothing is above the greatest of it and more
  pub start_within : (xs : List K) (a : K) → is_gt (R a (fold (ord_max R) a xs)) ≡ false
  start_within [] a = itself_within a
  start_within (x ∷ xs) a =
      upto o a (ord_max R a x) (fold (ord_max R) (ord_max R a x) xs) (first_within a x) (start_within xs (ord_max R a x))

  pub each_within : (test : K → Bool) (x : K) → ((y : K) → test y ≡ true → y ≡ x) → (xs : List K) (a : K) → list_any test xs ≡ true
      → is_gt (R x (fold (ord_max R) a xs)) ≡ false
  each_within test x only [] a h = absurd cc
  each_within test x only (y ∷ ys) a h = by (each_within test x only ys (ord_max R a y)) (or_cases (test y) (list_any test ys) h)
    where
      by : (list_any test ys ≡ true → is_gt (R x (fold (ord_max R) (ord_max R a y) ys)) ≡ false)
          → (test y ≡ true) ⊎ (list_any test ys ≡ true) → is_gt (R x (fold (ord_max R) (ord_max R a y) ys)) ≡ false
      by later (inl e) =
          upto o x (ord_max R a y) (fold (ord_max R) (ord_max R a y) ys)
          (subst (λ z. is_gt (R z (ord_max R a y)) ≡ false) (only y e) (second_within a y)) (start_within ys (ord_max R a y))
      by later (inr e) = later e

  -- the greatest passes a test that all pass
  pub greatest_passes : (p : K → Bool) (xs : List K) (a : K) → p a ≡ true → p (fold (ord_max R) a (filter p xs)) ≡ true
  greatest_passes p [] a h = h
  greatest_passes p (x ∷ xs) a h = by (greatest_passes p xs) (p x) refl
    where
      either : (t : Bool) → p x ≡ true → p (cond t a x) ≡ true
      either true e = h
      either false e = e

      by : ((b : K) → p b ≡ true → p (fold (ord_max R) b (filter p xs)) ≡ true) → (t : Bool) → p x ≡ t
          → p (fold (ord_max R) a (cond t (x ∷ filter p xs) (filter p xs))) ≡ true
      by later true e = later (ord_max R a x) (either (is_lt (R x a)) e)
      by later false e = later a h

  -- and one that each of more passes
  pub all_pass : (p kept : K → Bool) (xs : List K) (a : K) → p a ≡ true → list_all p xs ≡ true
      → p (fold (ord_max R) a (filter kept xs)) ≡ true
  all_pass p kept [] a h all = h
  all_pass p kept (x ∷ xs) a h all = by (and_parts (p x) (list_all p xs) all) (all_pass p kept xs) (kept x)
    where
      either : (t : Bool) → p x ≡ true → p (cond t a x) ≡ true
      either true e = h
      either false e = e

      by : (p x ≡ true) × (list_all p xs ≡ true)
          → ((b : K) → p b ≡ true → list_all p xs ≡ true → p (fold (ord_max R) b (filter kept xs)) ≡ true) → (t : Bool)
          → p (fold (ord_max R) a (cond t (x ∷ filter kept xs) (filter kept xs))) ≡ true
      by both later true = later (ord_max R a x) (either (is_lt (R x a)) both.0) both.1
      by both later false = later a h both.1
