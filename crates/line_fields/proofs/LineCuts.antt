-- The first line of bytes, and those behind its newline.
use Rattle.std.proofs.Common.{◌≡◌, ℕ, ◌+◌, ◌<◌, List, [], ◌∷◌, length, take, drop, Option, Some}
use Rattle.std.proofs.Common.{None, Bool, true, false, refl, sym, ap, ◌∙◌, arith, cond, get_or}
use Rattle.std.specs.Prelude.{◌==◌}
use Rattle.std.proofs.lemmas.Grind.{common_steps}
use Rattle.std.proofs.lemmas.List.Splits.{slice_split_first, slice_split_none}
use Rattle.std.proofs.lemmas.List.Quantifiers.{position-Some}
use Rattle.std.proofs.lemmas.List.Sums.{prefix_len_passes, position_or_len_is}
use Rattle.std.specs.List.{slice_split, position, position_or_len}
use Rattle.line_fields.specs.TextLines.{but_empty_last, lines_of}

place_is : {X : Type 0} (p : X → Bool) (xs : List X) (d : X) (at : ℕ) → position p xs ≡ Some at → position_or_len p xs ≡ at
place_is p xs d at e =
    let h : (at < length xs) × (p (get_or xs at d) ≡ true) × ((k : ℕ) → k < at → p (get_or xs k d) ≡ false) = position-Some p xs at d e in
    position_or_len_is p xs at d (omega (arith, h.0)) h.2 (λ _. h.1)

split-Some : (bs : List ℕ) (at : ℕ) → position (λ b. b == 10) bs ≡ Some at →
    slice_split (λ b. b == 10) bs ≡ take at bs ∷ slice_split (λ b. b == 10) (drop (at + 1) bs)
split-Some bs at e =
    let i : position_or_len (λ b. b == 10) bs ≡ at = place_is (λ b. b == 10) bs 0 at e in
    let l : at < length bs = (position-Some (λ b. b == 10) bs at 0 e).0 in
    slice_split_first (λ b. b == 10) bs 0 (omega (arith, i, l)) ∙ (λ j. take (i j) bs ∷ slice_split (λ b. b == 10) (drop (i j + 1) bs))

position-None : {X : Type 0} (p : X → Bool) (xs : List X) →
    position p xs ≡ None → (k : ℕ) (d : X) → k < length xs → p (get_or xs k d) ≡ false
position-None p xs e k d h = grind (arith, common_steps, prefix_len_passes)

split-None : (bs : List ℕ) → position (λ b. b == 10) bs ≡ None → slice_split (λ b. b == 10) bs ≡ bs ∷ []
split-None bs e = slice_split_none (λ b. b == 10) bs (position-None (λ b. b == 10) bs e)

-- bytes are split into one piece at least
pub record Pieces (bs : List ℕ) : Type 0 where
  pub first : List ℕ
  pub others : List (List ℕ)
  pub is : slice_split (λ b. b == 10) bs ≡ first ∷ others

pub pieces : (bs : List ℕ) → Pieces bs
pieces bs = by (position (λ b. b == 10) bs) refl
  where
    by : (o : Option ℕ) → position (λ b. b == 10) bs ≡ o → Pieces bs
    by (Some at) e = record { first = take at bs; others = slice_split (λ b. b == 10) (drop (at + 1) bs); is = split-Some bs at e }
    by None e = record { first = bs; others = []; is = split-None bs e }

pub lines-Some : (bs : List ℕ) (at : ℕ) → position (λ b. b == 10) bs ≡ Some at → lines_of bs ≡ take at bs ∷ lines_of (drop (at + 1) bs)
lines-Some bs at e =
    let p = pieces (drop (at + 1) bs) in
    ap but_empty_last (split-Some bs at e ∙ ap (λ (ps : List (List ℕ)). take at bs ∷ ps) p.is)
    ∙ ap (λ (ps : List (List ℕ)). take at bs ∷ but_empty_last ps) (sym p.is)

pub lines-None : (bs : List ℕ) → position (λ b. b == 10) bs ≡ None → 0 < length bs → lines_of bs ≡ bs ∷ []
lines-None bs e some =
    let long : (length bs == 0) ≡ false = grind (arith, common_steps) in
    ap but_empty_last (split-None bs e) ∙ ap (λ b. cond b [] (bs ∷ [])) long
