-- Searches through lists with the same elements.
use Rattle.std.proofs.Common.{◌≡◌, ℕ, zero, suc, ◌+◌, ◌<◌, ◌≤◌, ◌⊎◌, inl, inr, Bool, true, false, cond, List, [], ◌∷◌, ◌++◌}
use Rattle.std.proofs.Common.{length, get_or, take, Option, Some, None, map, refl, sym, ap, subst, ◌∙◌, arith, add-one}
use Rattle.std.specs.Prelude.{◌||◌, min, fold, filter, Contains, slice_get}
use Rattle.std.specs.List.{list_any, filter_map, reduce, cons_option}
use Rattle.std.proofs.lemmas.Bool.{cases_lt}

-- ---- the elements of a list

module _ {A : Type 0} where
  pub Contains-nil : {B : Type 0} (x : A) → Contains [] x → B
  Contains-nil x h = let lt = h.1 in absurd (omega arith)

  pub Contains-head : (x : A) (xs : List A) → Contains (x ∷ xs) x
  Contains-head x xs = (zero, omega arith, refl)

  pub Contains-tail : (y x : A) (xs : List A) → Contains xs x → Contains (y ∷ xs) x
  Contains-tail y x xs h = let lt = h.1 in (suc h.0, omega arith, h.2)

  pub Contains-cons : (y x : A) (xs : List A) → Contains (y ∷ xs) x → (y ≡ x) ⊎ Contains xs x
  Contains-cons y x xs h = by h.0 h.1 h.2
    where
      by : (k : ℕ) → k < length (y ∷ xs) → get_or (y ∷ xs) k x ≡ x → (y ≡ x) ⊎ Contains xs x
      by zero lt e = inl e
      by (suc k) lt e = inr (k, omega arith, e)

-- an element that passes
pub record Found {A : Type 0} (p : A → Bool) (xs : List A) : Type 0 where
  pub item : A
  pub among : Contains xs item
  pub passes : p item ≡ true

or_true : (a b : Bool) → b ≡ true → (a || b) ≡ true
or_true true b h = refl
or_true false b h = h

module _ {A : Type 0} (p : A → Bool) where
  pub any_from : (xs : List A) (x : A) → Contains xs x → p x ≡ true → list_any p xs ≡ true
  any_from [] x h e = Contains-nil x h
  any_from (y ∷ ys) x h e = by (any_from ys x) (Contains-cons y x ys h)
    where
      by : (Contains ys x → p x ≡ true → list_any p ys ≡ true) → (y ≡ x) ⊎ Contains ys x → (p y || list_any p ys) ≡ true
      by more (inl q) = ap (λ b. b || list_any p ys) (ap p q ∙ e)
      by more (inr q) = or_true (p y) (list_any p ys) (more q e)

  pub any_to : (xs : List A) → list_any p xs ≡ true → Found p xs
  any_to [] e = absurd cc
  any_to (y ∷ ys) e = by (any_to ys) (p y) refl
    where
      by : (list_any p ys ≡ true → Found p ys) → (b : Bool) → p y ≡ b → Found p (y ∷ ys)
      by more true q = record { item = y; among = Contains-head y ys; passes = q }
      by more false q =
          let f = more (sym (ap (λ b. b || list_any p ys) q) ∙ e) in
          record { item = f.item; among = Contains-tail y f.item ys f.among; passes = f.passes }

  pub filter_from : (xs : List A) (x : A) → Contains xs x → p x ≡ true → Contains (filter p xs) x
  filter_from [] x h e = Contains-nil x h
  filter_from (y ∷ ys) x h e = by (filter_from ys x) (Contains-cons y x ys h) (p y) refl
    where
      by : (Contains ys x → p x ≡ true → Contains (filter p ys) x) → (y ≡ x) ⊎ Contains ys x → (b : Bool) → p y ≡ b
          → Contains (filter p (y ∷ ys)) x
      by more (inl q) true r = subst (λ b. Contains (cond b (y ∷ filter p ys) (filter p ys)) x)
          (sym r) (subst (λ z. Contains (z ∷ filter p ys) x) (sym q) (Contains-head x (filter p ys)))
      by more (inl q) false r = let impossible : true ≡ false = sym e ∙ ap p (sym q) ∙ r in absurd cc
      by more (inr q) true r =
          subst (λ b. Contains (cond b (y ∷ filter p ys) (filter p ys)) x) (sym r) (Contains-tail y x (filter p ys) (more q e))
      by more (inr q) false r = subst (λ b. Contains (cond b (y ∷ filter p ys) (filter p ys)) x) (sym r) (more q e)

  pub filter_to : (xs : List A) (x : A) → Contains (filter p xs) x → Contains xs x × (p x ≡ true)
  filter_to [] x h = Contains-nil x h
  filter_to (y ∷ ys) x h = by (filter_to ys x) (p y) refl
    where
      by : (Contains (filter p ys) x → Contains ys x × (p x ≡ true)) → (b : Bool) → p y ≡ b → Contains (y ∷ ys) x × (p x ≡ true)
      by more true r =
          elim (Contains-cons y x (filter p ys) (subst (λ b. Contains (cond b (y ∷ filter p ys) (filter p ys)) x) r h)) [
            | inl q ↦ (subst (λ z. Contains (z ∷ ys) x) (sym q) (Contains-head x ys), ap p (sym q) ∙ r)
            | inr q ↦ let m = more q in (Contains-tail y x ys m.0, m.1)
          ]
      by more false r = let m =
          more (subst (λ b. Contains (cond b (y ∷ filter p ys) (filter p ys)) x) r h) in (Contains-tail y x ys m.0, m.1)

module _ {A B : Type 0} where
  pub map_from : (f : A → B) (xs : List A) (x : A) → Contains xs x → Contains (map f xs) (f x)
  map_from f [] x h = Contains-nil x h
  map_from f (y ∷ ys) x h = by (map_from f ys x) (Contains-cons y x ys h)
    where
      by : (Contains ys x → Contains (map f ys) (f x)) → (y ≡ x) ⊎ Contains ys x → Contains (f y ∷ map f ys) (f x)
      by more (inl q) = subst (λ z. Contains (f z ∷ map f ys) (f x)) (sym q) (Contains-head (f x) (map f ys))
      by more (inr q) = Contains-tail (f y) (f x) (map f ys) (more q)

  pub record Source (f : A → B) (xs : List A) (y : B) : Type 0 where
    pub item : A
    pub among : Contains xs item
    pub gives : f item ≡ y

  pub map_to : (f : A → B) (xs : List A) (z : B) → Contains (map f xs) z → Source f xs z
  map_to f [] z h = Contains-nil z h
  map_to f (y ∷ ys) z h = by (map_to f ys z) (Contains-cons (f y) z (map f ys) h)
    where
      by : (Contains (map f ys) z → Source f ys z) → (f y ≡ z) ⊎ Contains (map f ys) z → Source f (y ∷ ys) z
      by more (inl q) = record { item = y; among = Contains-head y ys; gives = q }
      by more (inr q) = let m = more q in record { item = m.item; among = Contains-tail y m.item ys m.among; gives = m.gives }

module _ {A B : Type 0} (f : A → Option B) where
  pub filter_map_from : (xs : List A) (x : A) (z : B) → Contains xs x → f x ≡ Some z → Contains (filter_map f xs) z
  filter_map_from [] x z h e = Contains-nil x h
  filter_map_from (y ∷ ys) x z h e = by (λ q. filter_map_from ys x z q e) (Contains-cons y x ys h)
    where
      past : (o : Option B) → Contains (filter_map f ys) z → Contains (cons_option o (filter_map f ys)) z
      past None q = q
      past (Some w) q = Contains-tail w z (filter_map f ys) q

      by : (Contains ys x → Contains (filter_map f ys) z) → (y ≡ x) ⊎ Contains ys x → Contains (cons_option (f y) (filter_map f ys)) z
      by more (inl q) = subst (λ o. Contains (cons_option o (filter_map f ys)) z) (sym (ap f q ∙ e)) (Contains-head z (filter_map f ys))
      by more (inr q) = past (f y) (more q)

  pub filter_map_to : (xs : List A) (z : B) → Contains (filter_map f xs) z → Source f xs (Some z)
  filter_map_to [] z h = Contains-nil z h
  filter_map_to (y ∷ ys) z h = by (filter_map_to ys z) (f y) refl h
    where
      by : (Contains (filter_map f ys) z → Source f ys (Some z)) → (o : Option B) → f y ≡ o → Contains (cons_option o (filter_map f ys)) z
          → Source f (y ∷ ys) (Some z)
      by more None r h' = let m = more h' in record { item = m.item; among = Contains-tail y m.item ys m.among; gives = m.gives }
      by more (Some w) r h' =
          elim (Contains-cons w z (filter_map f ys) h') [
            | inl q ↦ record { item = y; among = Contains-head y ys; gives = r ∙ ap Some q }
            | inr q ↦ let m = more q in record { item = m.item; among = Contains-tail y m.item ys m.among; gives = m.gives }
          ]

-- ---- whether some element passes, in two lists

both_true : (a b : Bool) → (a ≡ true → b ≡ true) → (b ≡ true → a ≡ true) → a ≡ b
both_true true b f g = sym (f refl)
both_true false true f g = g refl
both_true false false f g = refl

pub any_same : {A B : Type 0} (p : A → Bool) (q : B → Bool) (xs : List A) (ys : List B) → (Found p xs → Found q ys)
    → (Found q ys → Found p xs) → list_any p xs ≡ list_any q ys
any_same p q xs ys f g =
    both_true (list_any p xs) (list_any q ys) (λ e. let m = f (any_to p xs e) in any_from q ys m.item m.among m.passes)
    (λ e. let m = g (any_to q ys e) in any_from p xs m.item m.among m.passes)

-- ---- the least of two lists

record IsLeast (xs : List ℕ) (m : ℕ) : Type 0 where
  among : Contains xs m
  least : (n : ℕ) → Contains xs n → m ≤ n

min_cases : (x y : ℕ) → (min x y ≡ x) ⊎ (min x y ≡ y)
min_cases x y = elim (cases_lt x y) [ inl l ↦ inl (omega arith) | inr g ↦ inr (omega arith) ]

least_is : (x : ℕ) (xs : List ℕ) → IsLeast (x ∷ xs) (fold min x xs)
least_is x [] =
    record {
      among = Contains-head x [];
      least = λ n h. elim (Contains-cons x n [] h) [ inl q ↦ omega (arith, q) | inr q ↦ Contains-nil n q ];
    }
least_is x (y ∷ ys) = by (least_is (min x y) ys)
  where
    by : IsLeast (min x y ∷ ys) (fold min (min x y) ys) → IsLeast (x ∷ y ∷ ys) (fold min (min x y) ys)
    by i =
        record {
          among =
              elim (Contains-cons (min x y) (fold min (min x y) ys) ys i.among) [
                | inl q ↦ elim (min_cases x y) [
                  | inl l ↦ subst (λ m. Contains (x ∷ y ∷ ys) m) (sym l ∙ q) (Contains-head x (y ∷ ys))
                  | inr r ↦ Contains-tail x (fold min (min x y) ys) (y ∷ ys) (subst (λ m. Contains (y ∷ ys) m) (sym r
                      ∙ q) (Contains-head y ys))
                ]
                | inr q ↦ Contains-tail x (fold min (min x y) ys) (y ∷ ys) (Contains-tail y (fold min (min x y) ys) ys q)
              ];
          least =
              λ n h.
              elim (Contains-cons x n (y ∷ ys) h) [
                | inl q ↦ let l = i.least (min x y) (Contains-head (min x y) ys) in omega (arith, q, l)
                | inr h' ↦ elim (Contains-cons y n ys h') [
                  | inl q ↦ let l = i.least (min x y) (Contains-head (min x y) ys) in omega (arith, q, l)
                  | inr q ↦ i.least n (Contains-tail (min x y) n ys q)
                ]
              ];
        }

pub least_same : (xs ys : List ℕ) → ((n : ℕ) → Contains xs n → Contains ys n) → ((n : ℕ) → Contains ys n → Contains xs n)
    → reduce min xs ≡ reduce min ys
least_same [] [] f g = refl
least_same [] (y ∷ ys) f g = Contains-nil y (g y (Contains-head y ys))
least_same (x ∷ xs) [] f g = Contains-nil x (f x (Contains-head x xs))
least_same (x ∷ xs) (y ∷ ys) f g =
    let a = least_is x xs in
    let b = least_is y ys in
    let p = a.least (fold min y ys) (g _ b.among) in
    let q = b.least (fold min x xs) (f _ a.among) in
    let e : fold min x xs ≡ fold min y ys = omega (arith, p, q) in ap Some e

-- ---- the first elements of a list

pub take_here : {A : Type 0} (xs : List A) (i : ℕ) (x : A) → slice_get xs i ≡ Some x → take (suc i) xs ≡ take i xs ++ x ∷ []
take_here [] i x e = absurd cc
take_here (y ∷ ys) zero x e = let same : y ≡ x = cc in ap (λ z. z ∷ []) same
take_here (y ∷ ys) (suc i) x e = ap (λ zs. y ∷ zs) (take_here ys i x e)

pub take_more : {A : Type 0} (xs : List A) (i : ℕ) (x : A) → slice_get xs i ≡ Some x → take (i + 1) xs ≡ take i xs ++ x ∷ []
take_more xs i x e = rw add-one (take_here xs i x e)

pub take_all : {A : Type 0} (xs : List A) (i : ℕ) → length xs ≤ i → take i xs ≡ xs
take_all [] zero h = refl
take_all [] (suc i) h = refl
take_all (y ∷ ys) zero h = absurd (omega arith)
take_all (y ∷ ys) (suc i) h = ap (λ zs. y ∷ zs) (take_all ys i (omega arith))
