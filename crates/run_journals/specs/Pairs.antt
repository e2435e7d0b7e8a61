-- Two lists, item by item.
use Rattle.std.specs.Prelude.{List, [], ◌∷◌, ⊤}

-- each item stands so to the one beside it
abbrev pub Pairs : {A B : Type 0} → (A → B → Type 0) → List A → List B → Type 0
Pairs Is [] [] = ⊤
Pairs Is [] (b ∷ rs) = ⊥
Pairs Is (a ∷ ls) [] = ⊥
Pairs Is (a ∷ ls) (b ∷ rs) = Is a b × Pairs Is ls rs
