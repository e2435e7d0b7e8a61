-- A noted read before others, and behind them.
use Rattle.std.proofs.Common.{List, [], ◌∷◌, ◌++◌, inl, inr}
use Rattle.std.proofs.lemmas.List.Elements.{Contains-append_left, Contains-append_right, Contains-append_cases}
use Rattle.mv_store.specs.Store.{HaveSame}

pub same_itself : {A : Type 0} (xs : List A) → HaveSame xs xs
same_itself xs = λ z. (λ c. c, λ c. c)

pub turned : {A : Type 0} (xs : List A) (h : A) → HaveSame (h ∷ xs) (xs ++ h ∷ [])
turned xs h = λ z. (
  (λ c. elim (Contains-append_cases (h ∷ []) xs z c) [
    | inl i ↦ Contains-append_right xs (h ∷ []) z i
    | inr i ↦ Contains-append_left xs (h ∷ []) z i
  ]),
  (λ c. elim (Contains-append_cases xs (h ∷ []) z c) [
    | inl i ↦ Contains-append_right (h ∷ []) xs z i
    | inr i ↦ Contains-append_left (h ∷ []) xs z i
  ]),
)
