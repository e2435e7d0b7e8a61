-- A list that is read item by item.
use Rattle.std.proofs.Common.{◌≡◌, ℕ, ◌+◌, ◌<◌, ◌≤◌, List, [], ◌∷◌, ◌++◌, length, map, drop, get_or, Option, Some, None}
use Rattle.std.proofs.Common.{option_map, refl, sym, ap, ◌∙◌, append_assoc}
use Rattle.std.proofs.lemmas.List.{drop_more, append-nil, drop_all}
use Rattle.cluster_file.specs.Grammar.{each, cons_option}

abbrev pub before : {B : Type 0} → List B → Option (List B) → Option (List B)
before got rest = option_map (λ ys. got ++ ys) rest

-- what was got is what the first `k` items are
pub record Reads {A B : Type 0} (f : A → Option B) (xs : List A) (got : List B) (k : ℕ) : Type 0 where
  pub rest : each f xs ≡ before got (each f (drop k xs))

pub each-map : {A B C : Type 0} (f : B → Option C) (h : A → B) (xs : List A) → each f (map h xs) ≡ each (λ x. f (h x)) xs
each-map f h [] = refl
each-map f h (x ∷ xs) = ap (cons_option (f (h x))) (each-map f h xs)

before-nil : {B : Type 0} (o : Option (List B)) → o ≡ before [] o
before-nil None = refl
before-nil (Some ys) = refl

shift : {B : Type 0} (got : List B) (y : B) (o : Option (List B)) → before got (cons_option (Some y) o) ≡ before (got ++ y ∷ []) o
shift got y None = refl
shift got y (Some ys) = ap Some (sym (append_assoc got (y ∷ []) ys))

pub begins : {A B : Type 0} (f : A → Option B) (xs : List A) → Reads f xs [] 0
begins f xs = record { rest = before-nil (each f xs) }

here : {A : Type 0} (xs : List A) (k : ℕ) (x : A) → k < length xs → x ≡ get_or xs k x → drop k xs ≡ x ∷ drop (k + 1) xs
here xs k x h is = drop_more xs k x h ∙ ap (λ y. y ∷ drop (k + 1) xs) (sym is)

pub goes_on : {A B : Type 0} (f : A → Option B) (xs : List A) (got : List B) (k : ℕ) (x : A) (y : B)
    → k < length xs → x ≡ get_or xs k x → f x ≡ Some y → Reads f xs got k → Reads f xs (got ++ y ∷ []) (k + 1)
goes_on f xs got k x y h is read r = record {
  rest = r.rest ∙ ap (λ zs. before got (each f zs)) (here xs k x h is)
      ∙ ap (λ o. before got (cons_option o (each f (drop (k + 1) xs)))) read ∙ shift got y (each f (drop (k + 1) xs));
}

pub fails : {A B : Type 0} (f : A → Option B) (xs : List A) (got : List B) (k : ℕ) (x : A)
    → k < length xs → x ≡ get_or xs k x → f x ≡ None → Reads f xs got k → each f xs ≡ None
fails f xs got k x h is none r =
    r.rest ∙ ap (λ zs. before got (each f zs)) (here xs k x h is) ∙ ap (λ o. before got (cons_option o (each f (drop (k + 1) xs)))) none

pub ends : {A B : Type 0} (f : A → Option B) (xs : List A) (got : List B) (k : ℕ) → length xs ≤ k → Reads f xs got k → each f xs ≡ Some got
ends f xs got k h r = r.rest ∙ ap (λ zs. before got (each f zs)) (drop_all k xs h) ∙ ap Some (append-nil got)
