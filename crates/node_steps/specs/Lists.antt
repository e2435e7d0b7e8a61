-- Lists in an order, and the first items of a kind.
use Rattle.std.specs.Prelude.{ℕ, List, [], ◌∷◌, Bool, ◌==◌, Option, find, filter_map, if◌then◌else◌}
use Rattle.std.specs.List.{list_any}
use Rattle.std.specs.Cmp.Lexicographic.{slice_cmp}
use Rattle.std.specs.Ordering.{nat_cmp, match_ordering}
use Rattle.std.specs.declared.cmp.Ordering.{Ordering}

-- items in the order of their keys
abbrev pub by_key : {A : Type 0} → (A → List ℕ) → A → A → Ordering
by_key key a b = slice_cmp nat_cmp (key a) (key b)

-- an ascending list with one more, in the place of an equal one
abbrev pub put : {A : Type 0} → (A → A → Ordering) → A → List A → List A
put cmp a [] = a ∷ []
put cmp a (x ∷ xs) = match_ordering (cmp a x) (a ∷ x ∷ xs) (a ∷ xs) (x ∷ put cmp a xs)

-- those that are like none of these, and like none before them
abbrev pub firsts_after : {A : Type 0} → (A → A → Bool) → List A → List A → List A
firsts_after like before [] = []
firsts_after like before (x ∷ xs) =
    if list_any (like x) before then firsts_after like before xs else x ∷ firsts_after like (x ∷ before) xs

-- the first of each kind
abbrev pub firsts : {A : Type 0} → (A → A → Bool) → List A → List A
firsts like items = firsts_after like [] items

-- the first with this number
abbrev pub first_with : {A : Type 0} → (A → ℕ) → List A → ℕ → Option A
first_with number items n = find (λ a. number a == n) items

-- of each of these numbers, in their order, the first with it
abbrev pub by_number : {A : Type 0} → (A → ℕ) → List ℕ → List A → List A
by_number number numbers items = filter_map (first_with number items) numbers
