-- The least place of those that pass a test.
use Rattle.std.proofs.Common.{◌≡◌, ℕ, Bool, true, false, cond, List, [], ◌∷◌, Option, Some, None, map, refl, sym, ap, ◌∙◌}
use Rattle.std.specs.Prelude.{min, filter, ◌||◌, ◌&&◌}
use Rattle.std.specs.List.{reduce, list_any}
use Rattle.mv_store.specs.Hits.{least}
use Rattle.mv_store.proofs.HitLaws.{least_assoc, least_comm, least_twice, reduce_cons}

-- the least place of those that pass
abbrev pub least_of : {A : Type 0} → (A → Bool) → (A → ℕ) → List A → Option ℕ
least_of p f xs = reduce min (map f (filter p xs))

cons_by : {A : Type 0} (p : A → Bool) (f : A → ℕ) (x : A) (xs : List A) (b : Bool) → p x ≡ b
    → least_of p f (x ∷ xs) ≡ cond b (least (Some (f x)) (least_of p f xs)) (least_of p f xs)
cons_by p f x xs true e = ap (λ b. reduce min (map f (cond b (x ∷ filter p xs) (filter p xs)))) e ∙ reduce_cons (f x) (map f (filter p xs))
cons_by p f x xs false e = ap (λ b. reduce min (map f (cond b (x ∷ filter p xs) (filter p xs)))) e

pub least_of_cons : {A : Type 0} (p : A → Bool) (f : A → ℕ) (x : A) (xs : List A)
    → least_of p f (x ∷ xs) ≡ cond (p x) (least (Some (f x)) (least_of p f xs)) (least_of p f xs)
least_of_cons p f x xs = cons_by p f x xs (p x) refl

-- ---- what passes one of two tests

either : (c p q : Bool) (n : ℕ) (u a b : Option ℕ) → u ≡ least a b
    → cond (c && (p || q)) (least (Some n) u) u ≡ least (cond (c && p) (least (Some n) a) a) (cond (c && q) (least (Some n) b) b)
either false p q n u a b e = e
either true false false n u a b e = e
either true true false n u a b e = ap (least (Some n)) e ∙ sym (least_assoc (Some n) a b)
either true false true n u a b e = ap (least (Some n)) (e ∙ least_comm a b) ∙ sym (least_assoc (Some n) b a)
    ∙ least_comm (least (Some n) b) a
either true true true n u a b e = ap (least (Some n)) e ∙ least_twice n a b

pub least_either : {A : Type 0} (c p q : A → Bool) (f : A → ℕ) (xs : List A)
    → least_of (λ x. c x && (p x || q x)) f xs ≡ least (least_of (λ x. c x && p x) f xs) (least_of (λ x. c x && q x) f xs)
least_either c p q f [] = refl
least_either c p q f (x ∷ xs) =
    least_of_cons (λ x. c x && (p x || q x)) f x xs
    ∙ either (c x) (p x) (q x) (f x) (least_of (λ x. c x && (p x || q x)) f xs) (least_of (λ x. c x && p x) f xs) (least_of (λ x. c x
    && q x) f xs) (least_either c p q f xs)
    ∙ sym (ap (λ a. least a (least_of (λ x. c x && q x) f (x ∷ xs))) (least_of_cons (λ x. c x && p x) f x xs)
    ∙ ap (least (cond (c x && p x) (least (Some (f x)) (least_of (λ x. c x && p x) f xs)) (least_of (λ x. c x
    && p x) f xs))) (least_of_cons (λ x. c x && q x) f x xs))

or_swap : (p q a b : Bool) → ((p || q) || (a || b)) ≡ ((p || a) || (q || b))
or_swap true q a b = refl
or_swap false true true b = refl
or_swap false true false b = refl
or_swap false false a b = refl

pub any_either : {A : Type 0} (p q : A → Bool) (xs : List A) → list_any (λ x. p x || q x) xs ≡ (list_any p xs || list_any q xs)
any_either p q [] = refl
any_either p q (x ∷ xs) = ap (λ b. (p x || q x) || b) (any_either p q xs) ∙ or_swap (p x) (q x) (list_any p xs) (list_any q xs)

-- ---- nothing passes

and_false : (b : Bool) → (b && false) ≡ false
and_false true = refl
and_false false = refl

pub least_none_pass : {A : Type 0} (c : A → Bool) (f : A → ℕ) (xs : List A) → least_of (λ x. c x && false) f xs ≡ None
least_none_pass c f [] = refl
least_none_pass c f (x ∷ xs) = cons_by (λ x. c x && false) f x xs false (and_false (c x)) ∙ least_none_pass c f xs

pub any_none_pass : {A : Type 0} (xs : List A) → list_any (λ x. false) xs ≡ false
any_none_pass [] = refl
any_none_pass (x ∷ xs) = any_none_pass xs
