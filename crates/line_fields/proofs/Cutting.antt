-- A line is cut at its first space.
use Rattle.std.proofs.Common.{◌≡◌, ℕ, ◌+◌, ◌<◌, List, [], ◌∷◌, length, take, drop, Some}
use Rattle.std.proofs.Common.{None, Bool, true, false, eqb, refl, ◌∙◌, arith, get_or}
use Rattle.std.proofs.lemmas.Grind.{common_steps}
use Rattle.std.proofs.lemmas.List.Splits.{slice_split_first, slice_split_none, length-slice_split}
use Rattle.std.proofs.lemmas.List.Quantifiers.{position-Some}
use Rattle.std.proofs.lemmas.List.Sums.{prefix_len_passes, position_or_len_is}
use Rattle.line_fields.specs.Tokens.{tokens, tokens_after, one_of}
use Rattle.std.specs.List.{count_by, slice_split, position, position_or_len}

pub place-is : {X : Type 0} (p : X → Bool) (xs : List X) (d : X) (at : ℕ) → position p xs ≡ Some at → position_or_len p xs ≡ at
place-is p xs d at e =
    let h : (at < length xs) × (p (get_or xs at d) ≡ true) × ((k : ℕ) → k < at → p (get_or xs k d) ≡ false) = position-Some p xs at d e in
    position_or_len_is p xs at d (omega (arith, h.0)) h.2 (λ _. h.1)

pub split-Some : (bs : List ℕ) (at : ℕ) →
    position (λ b. eqb b 32) bs ≡ Some at → slice_split (λ b. eqb b 32) bs ≡ take at bs ∷ slice_split (λ b. eqb b 32) (drop (at + 1) bs)
split-Some bs at e =
    let i : position_or_len (λ b. eqb b 32) bs ≡ at = place-is (λ b. eqb b 32) bs 0 at e in
    let l : at < length bs = (position-Some (λ b. eqb b 32) bs at 0 e).0 in
    slice_split_first (λ b. eqb b 32) bs 0 (omega (arith, i, l)) ∙ (λ j. take (i j) bs ∷ slice_split (λ b. eqb b 32) (drop (i j + 1) bs))

pub position-none : {X : Type 0} (p : X → Bool) (xs : List X) →
    position p xs ≡ None → (k : ℕ) (d : X) → k < length xs → p (get_or xs k d) ≡ false
position-none p xs e k d h = grind (arith, common_steps, prefix_len_passes)

pub split-None : (bs : List ℕ) → position (λ b. eqb b 32) bs ≡ None → slice_split (λ b. eqb b 32) bs ≡ bs ∷ []
split-None bs e = slice_split_none (λ b. eqb b 32) bs (position-none (λ b. eqb b 32) bs e)

no-end : (a : List ℕ) (n : ℕ) (ws : List (List ℕ)) → length ws ≡ n + 1 → one_of (a ∷ ws) ≡ None
unfolding one_of
no-end a n [] e = absurd (omega arith)
no-end a n (w ∷ ws) e = refl

-- behind a space there is a token
pub one-more : (a rest : List ℕ) → one_of (a ∷ tokens_after (Some rest)) ≡ None
unfolding tokens_after
one-more a rest = no-end a (count_by (λ b. eqb b 32) rest) (tokens rest) (length-slice_split (λ b. eqb b 32) rest)
