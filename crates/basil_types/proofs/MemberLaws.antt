-- Membership of lists, one element at a time, and searches.
use Rattle.std.proofs.Common.{◌≡◌, ℕ, Bool, true, false, cond, refl, arith, ◌⊎◌, inl, inr, sym, ◌∙◌, ap, subst, List, [], ◌∷◌, get_or}
use Rattle.std.specs.Prelude.{filter, map}
use Rattle.std.specs.List.{Contains, list_any}
use Rattle.std.proofs.lemmas.Bool.{or_cases, or_left, or_right}
use Rattle.std.proofs.lemmas.List.Elements.{Contains-append_right, Contains-append_left, Contains-append_cases}

module _ {A : Type 0} where
  pub in_none : (x : A) → Contains [] x → ⊥
  in_none x h = absurd (omega (arith, h.1))

  in_one : (y x : A) → Contains (y ∷ []) x → y ≡ x
  in_one y x h = let e : h.0 ≡ 0 = omega (arith, h.1) in subst (λ (k : ℕ). get_or (y ∷ []) k x ≡ x) e h.2

  in_itself : (x : A) → Contains (x ∷ []) x
  in_itself x = (0, omega arith, refl)

  pub in_head : (x : A) (xs : List A) → Contains (x ∷ xs) x
  in_head x xs = Contains-append_left (x ∷ []) xs x (in_itself x)

  pub in_tail : (y : A) (xs : List A) (x : A) → Contains xs x → Contains (y ∷ xs) x
  in_tail y xs x h = Contains-append_right (y ∷ []) xs x h

  pub in_cases : (y : A) (xs : List A) (x : A) → Contains (y ∷ xs) x → (y ≡ x) ⊎ Contains xs x
  in_cases y xs x h = elim (Contains-append_cases (y ∷ []) xs x h) [ inl k ↦ inl (in_one y x k) | inr k ↦ inr k ]

  -- a search that hits
  pub hit_of : (p : A → Bool) (xs : List A) → list_any p xs ≡ true → (x : A) × Contains xs x × (p x ≡ true)
  hit_of p [] h = absurd cc
  hit_of p (x ∷ xs) h = elim (or_cases (p x) (list_any p xs) h) [
    | inl k ↦ (x, in_head x xs, k)
    | inr k ↦ let o = hit_of p xs k in (o.0, in_tail x xs o.0 o.1, o.2)
  ]

  pub hit_from : (p : A → Bool) (xs : List A) (x : A) → Contains xs x → p x ≡ true → list_any p xs ≡ true
  hit_from p [] x h k = absurd (in_none x h)
  hit_from p (y ∷ ys) x h k = elim (in_cases y ys x h) [
    | inl e ↦ or_left (p y) (list_any p ys) (ap p e ∙ k)
    | inr i ↦ or_right (p y) (list_any p ys) (hit_from p ys x i k)
  ]

  -- a filter
  pub in_filter : (p : A → Bool) (xs : List A) (x : A) → Contains (filter p xs) x → Contains xs x × (p x ≡ true)
  in_filter p [] x h = absurd (in_none x h)
  in_filter p (y ∷ ys) x h = by (p y) refl (in_filter p ys x) h
    where
      by : (t : Bool) → p y ≡ t → (Contains (filter p ys) x → Contains ys x × (p x ≡ true)) → Contains
          (cond t (y ∷ filter p ys) (filter p ys)) x → Contains (y ∷ ys) x × (p x ≡ true)
      by true e f k = elim (in_cases y (filter p ys) x k) [
        | inl i ↦ (subst (λ z. Contains (y ∷ ys) z) i (in_head y ys), ap p (sym i) ∙ e)
        | inr i ↦ let o = f i in (in_tail y ys x o.0, o.1)
      ]
      by false e f k = let o = f k in (in_tail y ys x o.0, o.1)

  pub filter_in : (p : A → Bool) (xs : List A) (x : A) → Contains xs x → p x ≡ true → Contains (filter p xs) x
  filter_in p [] x h k = absurd (in_none x h)
  filter_in p (y ∷ ys) x h k = by (p y) refl (filter_in p ys x) (in_cases y ys x h)
    where
      by : (t : Bool) → p y ≡ t → (Contains ys x → p x ≡ true → Contains (filter p ys) x) → (y ≡ x) ⊎ Contains ys x → Contains
          (cond t (y ∷ filter p ys) (filter p ys)) x
      by true e f (inl i) = subst (λ z. Contains (y ∷ filter p ys) z) i (in_head y (filter p ys))
      by true e f (inr i) = in_tail y (filter p ys) x (f i k)
      by false e f (inl i) = absurd (let impossible : true ≡ false = sym k ∙ ap p (sym i) ∙ e in cc)
      by false e f (inr i) = f i k

module _ {A B : Type 0} (f : A → B) where
  pub in_map : (xs : List A) (y : B) → Contains (map f xs) y → (x : A) × Contains xs x × (f x ≡ y)
  in_map [] y h = absurd (in_none y h)
  in_map (x ∷ xs) y h = elim (in_cases (f x) (map f xs) y h) [
    | inl i ↦ (x, in_head x xs, i)
    | inr i ↦ let o = in_map xs y i in (o.0, in_tail x xs o.0 o.1, o.2)
  ]

  pub map_in : (xs : List A) (x : A) → Contains xs x → Contains (map f xs) (f x)
  map_in [] x h = absurd (in_none x h)
  map_in (y ∷ ys) x h = elim (in_cases y ys x h) [
    | inl i ↦ subst (λ z. Contains (f y ∷ map f ys) (f z)) i (in_head (f y) (map f ys))
    | inr i ↦ in_tail (f y) (map f ys) (f x) (map_in ys x i)
  ]
