-- Tokens joined by spaces.
use Rattle.std.proofs.Common.{◌≡◌, ℕ, List, [], ◌∷◌, ◌++◌, sym, ap, append-nil}
use Rattle.std.specs.List.{join_with_byte}
use Rattle.schedule_text.specs.Pieces.{spaced}

-- the first token, and each other behind a space
pub join-spaced : (first : List ℕ) (rest : List (List ℕ)) → join_with_byte 32 (first ∷ rest) ≡ first ++ spaced rest
join-spaced first [] = sym (append-nil first)
join-spaced first (w ∷ rest) = ap (λ t. first ++ (32 ∷ t)) (join-spaced w rest)

pub ruleset joins = (join-spaced)
