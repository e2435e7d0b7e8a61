-- Two lists, item by item.
use Rattle.std.proofs.Common.{◌≡◌, ◌∙◌, ◌<◌, ◌≤◌, ℕ, zero, suc, ◌+◌, Bool, cond, List, [], ◌∷◌, length, refl, sym, ap, subst}
use Rattle.std.proofs.Common.{arith}
use Rattle.std.proofs.lemmas.Option.{same_Some}
use Rattle.std.specs.Prelude.{Some, None, option_map, position, slice_get, slice_index_or, slice_set}
use Rattle.basil_types.proofs.Walks.{position-cons}
use Rattle.cluster_world.specs.Pairs.{Pairs}

pub pairs_length : {A B : Type 0} (Is : ℕ → A → B → Type 0) (ls : List A) (rs : List B) → Pairs Is ls rs → length ls ≡ length rs
pairs_length Is [] [] h = refl
pairs_length Is [] (b ∷ rs) h = absurd h
pairs_length Is (a ∷ ls) [] h = absurd h
pairs_length Is (a ∷ ls) (b ∷ rs) h = ap suc (pairs_length (λ place. Is (suc place)) ls rs h.1)

-- beside an item stands one
pub pairs_at : {A B : Type 0} (Is : ℕ → A → B → Type 0) (ls : List A) (rs : List B) (place : ℕ) (a : A) → Pairs Is ls rs →
    slice_get ls place ≡ Some a → (b : B) × (slice_get rs place ≡ Some b) × Is place a b
pairs_at Is [] rs place a h got = absurd cc
pairs_at Is (x ∷ ls) [] place a h got = absurd h
pairs_at Is (x ∷ ls) (b ∷ rs) zero a h got = (b, refl, subst (λ y. Is 0 y b) (same_Some x a got) h.0)
pairs_at Is (x ∷ ls) (b ∷ rs) (suc place) a h got = pairs_at (λ n. Is (suc n)) ls rs place a h.1 got

pub pairs_set : {A B : Type 0} (Is : ℕ → A → B → Type 0) (ls : List A) (rs : List B) (place : ℕ) (a : A) (b : B) → Pairs Is ls rs →
    Is place a b → Pairs Is (slice_set ls place a) (slice_set rs place b)
pairs_set Is [] [] place a b h one = tt
pairs_set Is [] (y ∷ rs) place a b h one = absurd h
pairs_set Is (x ∷ ls) [] place a b h one = absurd h
pairs_set Is (x ∷ ls) (y ∷ rs) zero a b h one = (one, h.1)
pairs_set Is (x ∷ ls) (y ∷ rs) (suc place) a b h one = (h.0, pairs_set (λ n. Is (suc n)) ls rs place a b h.1 one)

-- what is first in the one list is first in the other
pub pairs_found : {A B : Type 0} (Is : ℕ → A → B → Type 0) (test : A → Bool) (probe : B → Bool) (ls : List A) (rs : List B) →
    ((place : ℕ) (a : A) (b : B) → Is place a b → test a ≡ probe b) → Pairs Is ls rs → position test ls ≡ position probe rs
pairs_found Is test probe [] [] each h = refl
pairs_found Is test probe [] (b ∷ rs) each h = absurd h
pairs_found Is test probe (a ∷ ls) [] each h = absurd h
pairs_found Is test probe (a ∷ ls) (b ∷ rs) each h =
    position-cons test a ls
    ∙ ap (λ x. cond x (Some 0) (option_map (λ k. k + 1) (position test ls))) (each 0 a b h.0)
    ∙ ap (λ o. cond (probe b) (Some 0) (option_map (λ k. k + 1) o))
    (pairs_found (λ n. Is (suc n)) test probe ls rs (λ place. each (suc place)) h.1)
    ∙ sym (position-cons probe b rs)

-- ---- places

pub here : {A : Type 0} (xs : List A) (i : ℕ) → i < length xs → (x : A) × (slice_get xs i ≡ Some x)
here [] i h = absurd (omega arith)
here (x ∷ xs) zero h = (x, refl)
here (x ∷ xs) (suc i) h = here xs i (omega arith)

pub beyond : {A : Type 0} (xs : List A) (i : ℕ) → length xs ≤ i → slice_get xs i ≡ None
beyond [] i h = refl
beyond (x ∷ xs) zero h = absurd (omega arith)
beyond (x ∷ xs) (suc i) h = beyond xs i (omega arith)

pub within : {A : Type 0} (xs : List A) (i : ℕ) (x : A) → slice_get xs i ≡ Some x → i < length xs
within [] i x e = absurd cc
within (y ∷ ys) zero x e = omega arith
within (y ∷ ys) (suc i) x e = let h = within ys i x e in omega arith

pub set_own : {A : Type 0} (xs : List A) (i : ℕ) (x : A) → slice_get xs i ≡ Some x → slice_set xs i x ≡ xs
set_own [] i x e = refl
set_own (y ∷ ys) zero x e = ap (λ z. z ∷ ys) (sym (same_Some y x e))
set_own (y ∷ ys) (suc i) x e = ap (λ l. y ∷ l) (set_own ys i x e)

pub got : {A : Type 0} (xs : List A) (i : ℕ) (x : A) → i < length xs → x ≡ slice_index_or xs i x → slice_get xs i ≡ Some x
got [] i x h e = absurd (omega arith)
got (y ∷ ys) zero x h e = ap Some (sym e)
got (y ∷ ys) (suc i) x h e = got ys i x (omega arith) e

pub nil_of : {A : Type 0} (xs : List A) → length xs ≡ 0 → xs ≡ []
nil_of [] e = refl
nil_of (x ∷ xs) e = absurd (omega (arith, e))
