-- Pieces of one length, one behind the other.
use Rattle.std.proofs.Common.{◌≡◌, ℕ, zero, suc, ◌+◌, ◌*◌, ◌<◌, List, [], ◌++◌, length, take, drop, add-one, refl, sym, ap, ◌∙◌}
use Rattle.std.proofs.Common.{arith, inl, inr, append_assoc}
use Rattle.std.proofs.Math.Seq.{take-append_seam, drop-append-add}
use Rattle.std.proofs.lemmas.Bool.{cases_lt}
use Rattle.std.proofs.lemmas.List.{length-append}
use Rattle.lms_ots.specs.Chains.{joined}

pub joined_none : (y : ℕ → List ℕ) → joined y 0 ≡ []
unfolding joined
joined_none y = refl

pub joined_more : (y : ℕ → List ℕ) (n : ℕ) → joined y (n + 1) ≡ joined y n ++ y n
unfolding joined
joined_more y n = rw add-one refl

module _ (y : ℕ → List ℕ) (size : ℕ) where
  pub length-joined : (n : ℕ) → ((i : ℕ) → i < n → length (y i) ≡ size) → length (joined y n) ≡ n * size
  unfolding joined
  length-joined zero sized = omega arith
  length-joined (suc n) sized =
      let before = length-joined n (λ i lt. sized i (omega arith)) in
      omega (arith, length-append (joined y n) (y n), before, sized n (omega arith))

  -- the piece at a place, with anything behind them
  pub piece-at : (n i : ℕ) (rest : List ℕ) → ((i : ℕ) → i < n → length (y i) ≡ size) → i < n →
      take size (drop (i * size) (joined y n ++ rest)) ≡ y i
  unfolding joined
  piece-at zero i rest sized lt = absurd (omega arith)
  piece-at (suc n) i rest sized lt =
      let before : length (joined y n) ≡ n * size = length-joined n (λ i lt. sized i (omega arith)) in
      ap (λ (t : List ℕ). take size (drop (i * size) t)) (append_assoc (joined y n) (y n) rest)
      ∙ elim (cases_lt i n) [
        | inl below ↦ piece-at n i (y n ++ rest) (λ i lt. sized i (omega arith)) below
        | inr from ↦
            let here : i ≡ n = omega arith in
            let start : i * size ≡ length (joined y n) + 0 = rw here (omega (arith, before)) in
            ap (λ (k : ℕ). take size (drop k (joined y n ++ (y n ++ rest)))) start
            ∙ ap (take size) (drop-append-add (joined y n) (y n ++ rest) 0)
            ∙ ap (λ (k : ℕ). take k (y n ++ rest)) (sym (sized n (omega arith)))
            ∙ take-append_seam (y n) rest ∙ ap y (sym here)
      ]

  -- what stands behind them
  pub behind : (n : ℕ) (rest : List ℕ) → ((i : ℕ) → i < n → length (y i) ≡ size) → drop (n * size) (joined y n ++ rest) ≡ rest
  behind n rest sized =
      let start : n * size ≡ length (joined y n) + 0 = omega (arith, length-joined n sized) in
      ap (λ (k : ℕ). drop k (joined y n ++ rest)) start ∙ drop-append-add (joined y n) rest 0
