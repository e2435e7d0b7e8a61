-- Two lists, item by item.
use Rattle.std.specs.Prelude.{ℕ, suc, List, [], ◌∷◌, ⊤}

-- each item, at its place, stands so to the one beside it
abbrev pub Pairs : {A B : Type 0} → (ℕ → A → B → Type 0) → List A → List B → Type 0
Pairs Is [] [] = ⊤
Pairs Is [] (b ∷ rs) = ⊥
Pairs Is (a ∷ ls) [] = ⊥
Pairs Is (a ∷ ls) (b ∷ rs) = Is 0 a b × Pairs (λ place. Is (suc place)) ls rs
