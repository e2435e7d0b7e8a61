-- Reading and writing one word in all lanes.
use Rattle.std.proofs.Common.{Bool, true, false, if◌then◌else◌, ◌≡◌, ℕ, zero, suc, ◌<◌, ◌+◌, ◌*◌, ◌/◌, ◌%◌}
use Rattle.std.proofs.Common.{List, [], ◌∷◌, length, slice_index, slice_set, arith, refl, subst, inl, inr}
use Rattle.std.proofs.lemmas.Bool.{cases_lt}
use Rattle.sha256_lanes.specs.Lanes.{lane_at, block_of, state_of}

pub below_four : (P : ℕ → Type 0) → P 0 → P 1 → P 2 → P 3 → (j : ℕ) → j < 4 → P j
below_four P p0 p1 p2 p3 zero h = p0
below_four P p0 p1 p2 p3 (suc zero) h = p1
below_four P p0 p1 p2 p3 (suc (suc zero)) h = p2
below_four P p0 p1 p2 p3 (suc (suc (suc zero))) h = p3
below_four P p0 p1 p2 p3 (suc (suc (suc (suc n)))) h = absurd (omega arith)

-- what holds of each of the sixteen words
pub below_sixteen : (P : ℕ → Type 0) → P 0 → P 1 → P 2 → P 3 → P 4 → P 5 → P 6 → P 7
    → P 8 → P 9 → P 10 → P 11 → P 12 → P 13 → P 14 → P 15 → (k : ℕ) → k < 16 → P k
below_sixteen P a0 a1 a2 a3 b0 b1 b2 b3 c0 c1 c2 c3 d0 d1 d2 d3 k h =
    let place : 4 * (k / 4) + k % 4 ≡ k = omega arith in
    subst P place (below_four (λ row. (col : ℕ) → col < 4 → P (4 * row + col))
    (below_four _ a0 a1 a2 a3) (below_four _ b0 b1 b2 b3) (below_four _ c0 c1 c2 c3) (below_four _ d0 d1 d2 d3)
    (k / 4) (omega arith) (k % 4) (omega arith))

-- word i of lane k
pub slice_index-block : (x : List (List ℕ)) (k i : ℕ) → i < 16 → slice_index (block_of k x) i ≡ lane_at x i k
slice_index-block x k =
    below_sixteen _ refl refl refl refl refl refl refl refl refl refl refl refl refl refl refl refl

-- what holds of each list of sixteen vectors
sixteen : (P : List (List ℕ) → Type 0)
    → ((a b c d e f g h i j k l m n o p : List ℕ) → P (a ∷ b ∷ c ∷ d ∷ e ∷ f ∷ g ∷ h ∷ i ∷ j ∷ k ∷ l ∷ m ∷ n ∷ o ∷ p ∷ []))
    → (xs : List (List ℕ)) → length xs ≡ 16 → P xs
sixteen P q (a ∷ b ∷ c ∷ d ∷ e ∷ f ∷ g ∷ h ∷ i ∷ j ∷ k ∷ l ∷ m ∷ n ∷ o ∷ p ∷ []) len = q a b c d e f g h i j k l m n o p
sixteen P q _ len = absurd (omega arith)

-- a vector written at place i
pub block-set : (x : List (List ℕ)) (v : List ℕ) (k i : ℕ) → i < 16 → length x ≡ 16
    → block_of k (slice_set x i v) ≡ slice_set (block_of k x) i (slice_index v k)
block-set x v k i lt len =
    sixteen (λ x. block_of k (slice_set x i v) ≡ slice_set (block_of k x) i (slice_index v k))
    (λ a b c d e f g h i0 j k0 l m n o p.
    below_sixteen (λ i. block_of k (slice_set (a ∷ b ∷ c ∷ d ∷ e ∷ f ∷ g ∷ h ∷ i0 ∷ j ∷ k0 ∷ l ∷ m ∷ n ∷ o ∷ p ∷ []) i v)
    ≡ slice_set (block_of k (a ∷ b ∷ c ∷ d ∷ e ∷ f ∷ g ∷ h ∷ i0 ∷ j ∷ k0 ∷ l ∷ m ∷ n ∷ o ∷ p ∷ [])) i (slice_index v k))
    refl refl refl refl refl refl refl refl refl refl refl refl refl refl refl refl i lt)
    x len

pub below_eight : (P : ℕ → Type 0) → P 0 → P 1 → P 2 → P 3 → P 4 → P 5 → P 6 → P 7 → (k : ℕ) → k < 8 → P k
below_eight P a0 a1 a2 a3 b0 b1 b2 b3 k h =
    let place : 4 * (k / 4) + k % 4 ≡ k = omega arith in
    let rows : (row : ℕ) → row < 2 → (col : ℕ) → col < 4 → P (4 * row + col) = λ row low. elim (cases_lt row 1) [
      | inl lt ↦ let e : 0 ≡ row = omega arith in subst (λ (r : ℕ). (col : ℕ) → col < 4 → P (4 * r + col)) e (below_four _ a0 a1 a2 a3)
      | inr ge ↦ let e : 1 ≡ row = omega arith in subst (λ (r : ℕ). (col : ℕ) → col < 4 → P (4 * r + col)) e (below_four _ b0 b1 b2 b3)
    ] in
    subst P place (rows (k / 4) (omega arith) (k % 4) (omega arith))

-- word i of the eight of lane k
pub slice_index-state : (x : List (List ℕ)) (k i : ℕ) → i < 8 → slice_index (state_of k x) i ≡ lane_at x i k
slice_index-state x k = below_eight _ refl refl refl refl refl refl refl refl

-- a choice that is made alike for the eight words of lane k
abbrev choice : Bool → Bool → ℕ → ℕ → ℕ
choice before inside old next = if before then old else (if inside then next else old)

pub chosen-state : (before inside : Bool) (old next : List (List ℕ)) (k : ℕ)
    → (choice before inside (lane_at old 0 k) (lane_at next 0 k) ∷ choice before inside (lane_at old 1 k) (lane_at next 1 k)
    ∷ choice before inside (lane_at old 2 k) (lane_at next 2 k) ∷ choice before inside (lane_at old 3 k) (lane_at next 3 k)
    ∷ choice before inside (lane_at old 4 k) (lane_at next 4 k) ∷ choice before inside (lane_at old 5 k) (lane_at next 5 k)
    ∷ choice before inside (lane_at old 6 k) (lane_at next 6 k) ∷ choice before inside (lane_at old 7 k) (lane_at next 7 k) ∷ [])
    ≡ (if before then state_of k old else (if inside then state_of k next else state_of k old))
chosen-state true inside old next k = refl
chosen-state false true old next k = refl
chosen-state false false old next k = refl
