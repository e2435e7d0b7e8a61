-- Rotations of words of 32 bits, each inside of the one before, bit by bit.
use Rattle.std.proofs.Common.{◌≡◌, ℕ, ◌+◌, ◌-◌, ◌*◌, ◌/◌, ◌%◌, ◌^◌, ◌<◌, max, bit_or, bit_xor}
use Rattle.std.proofs.Common.{arith, ap, sym, ◌∙◌, add-zero, mod-lt, pow_pos, shr-shr, inl, inr}
use Rattle.std.specs.Int.{w32, rotate_right, bit_at}
use Rattle.std.proofs.lemmas.Bool.{cases_lt}
use Rattle.std.proofs.lemmas.Nat.{or_lt, xor_lt, shr_le}
use Rattle.std.proofs.lemmas.Nat.Bits.{bit_at-zero, bit_at_above, bit_at_cat_low, bit_at_cat_high}
use Rattle.std.proofs.lemmas.Nat.Bits.{bit_at_or, bit_at_xor, same_from_bits_below}

abbrev turned : ℕ → ℕ → ℕ
turned x k = rotate_right w32 x k

-- a word's bits are those of any number that it is the low part of
low-bit : (y i : ℕ) → i < 32 → bit_at (y % 2 ^ 32) i ≡ bit_at y i
low-bit y i lt =
    let whole : y ≡ y / 2 ^ 32 * 2 ^ 32 + y % 2 ^ 32 = omega arith in
    sym (ap (λ (n : ℕ). bit_at n i) whole ∙ bit_at_cat_low (y / 2 ^ 32) 32 (y % 2 ^ 32) i lt)

zero-max : (n : ℕ) → max 0 n ≡ n
zero-max n = omega arith

max-zero : (n : ℕ) → max n 0 ≡ n
max-zero n = omega arith

-- two shifts by numbers that are 32 together
shifted-bit : (x k j i : ℕ) → k + j ≡ 32 →
    x < 2 ^ 32 → i < 32 → bit_at (bit_or (x / 2 ^ k) (x * 2 ^ j % 2 ^ 32)) i ≡ bit_at x ((i + k) % 32)
shifted-bit x k j i both fits lt =
    let right : bit_at (x / 2 ^ k) i ≡ bit_at x (k + i) = ap (λ (n : ℕ). n % 2) (shr-shr x k i) in
    let left : bit_at (x * 2 ^ j % 2 ^ 32) i ≡ bit_at (x * 2 ^ j + 0) i =
    low-bit (x * 2 ^ j) i lt ∙ ap (λ (n : ℕ). bit_at n i) (sym (add-zero _)) in
    let split : bit_at (bit_or (x / 2 ^ k) (x * 2 ^ j % 2 ^ 32)) i ≡ max (bit_at x (k + i)) (bit_at (x * 2 ^ j + 0) i) =
    bit_at_or (x / 2 ^ k) (x * 2 ^ j % 2 ^ 32) i ∙ (λ t. max (right t) (left t)) in
    elim (cases_lt i j) [
      | inl inside ↦
          let none : bit_at (x * 2 ^ j + 0) i ≡ 0 = bit_at_cat_low x j 0 i inside ∙ bit_at-zero i in
          let at : k + i ≡ (i + k) % 32 = omega arith in
          split ∙ ap (max (bit_at x (k + i))) none ∙ max-zero (bit_at x (k + i)) ∙ ap (bit_at x) at
      | inr past ↦
          let none : bit_at x (k + i) ≡ 0 = bit_at_above x 32 (k + i) fits (omega arith) in
          let at : i - j ≡ (i + k) % 32 = omega arith in
          split ∙ ap (λ (n : ℕ). max n (bit_at (x * 2 ^ j + 0) i)) none
          ∙ zero-max (bit_at (x * 2 ^ j + 0) i) ∙ bit_at_cat_high x j 0 i (pow_pos j) past ∙ ap (bit_at x) at
    ]

-- bit i of a rotation by k is bit i + k
turned-bit : (x k i : ℕ) → 0 < k → k < 32 → x < 2 ^ 32 → i < 32 → bit_at (turned x k) i ≡ bit_at x ((i + k) % 32)
turned-bit x k i pos low fits lt =
    let left : (32 - k % 32) % 32 ≡ 32 - k = omega arith in
    let right : k % 32 ≡ k = omega arith in
    rw (left, right) (shifted-bit x k (32 - k) i (omega arith) fits lt)

turned-lt : (x k : ℕ) → x < 2 ^ 32 → turned x k < 2 ^ 32
turned-lt x k fits = or_lt 32 _ _ (omega (arith, shr_le x (k % 32))) (mod-lt _ (pow_pos 32))

-- two rotations under xor
pub turned_two : (x a b : ℕ) → 0 < a → 0 < b → a + b < 32 → x < 2 ^ 32
    → turned (bit_xor x (turned x b)) a ≡ bit_xor (turned x a) (turned x (a + b))
turned_two x a b pa pb low fits =
    let both : bit_xor x (turned x b) < 2 ^ 32 = xor_lt 32 _ _ fits (turned-lt x b fits) in
    same_from_bits_below 32 _ _ (turned-lt _ a both) (xor_lt 32 _ _ (turned-lt x a fits) (turned-lt x (a + b) fits)) (λ i lt.
    let p : ℕ = (i + a) % 32 in
    let at : (p + b) % 32 ≡ (i + (a + b)) % 32 = omega arith in
    let far : bit_at (turned x b) p ≡ bit_at (turned x (a + b)) i =
    turned-bit x b p pb (omega arith) fits (omega arith) ∙ ap (bit_at x) at ∙ sym (turned-bit x (a + b) i (omega arith) low fits lt) in
    turned-bit _ a i pa (omega arith) both lt ∙ bit_at_xor x (turned x b) p
    ∙ (λ t. (sym (turned-bit x a i pa (omega arith) fits lt) t + far t) % 2) ∙ sym (bit_at_xor (turned x a) (turned x (a + b)) i))

flip : (m n o : ℕ) → (m + (n + o) % 2) % 2 ≡ ((m + n) % 2 + o) % 2
flip m n o = omega arith

-- three rotations under xor
pub turned_three : (x a b c : ℕ) → 0 < a → 0 < b → 0 < c → a + (b + c) < 32 → x < 2 ^ 32
    → turned (bit_xor x (turned (bit_xor x (turned x c)) b)) a ≡ bit_xor (bit_xor (turned x a) (turned x (a + b))) (turned x (a + (b + c)))
turned_three x a b c pa pb pc low fits =
    let near : ℕ = turned x b in
    let far : ℕ = turned x (b + c) in
    let inner : turned (bit_xor x (turned x c)) b ≡ bit_xor near far = turned_two x b c pb pc (omega arith) fits in
    let pair : bit_xor near far < 2 ^ 32 = xor_lt 32 _ _ (turned-lt x b fits) (turned-lt x (b + c) fits) in
    let all : bit_xor x (bit_xor near far) < 2 ^ 32 = xor_lt 32 _ _ fits pair in
    let first : ℕ = turned x a in
    let second : ℕ = turned x (a + b) in
    let third : ℕ = turned x (a + (b + c)) in
    let fits_first : first < 2 ^ 32 = turned-lt x a fits in
    let fits_second : second < 2 ^ 32 = turned-lt x (a + b) fits in
    let fits_third : third < 2 ^ 32 = turned-lt x (a + (b + c)) fits in
    ap (λ (y : ℕ). turned (bit_xor x y) a) inner
    ∙ same_from_bits_below 32 _ _ (turned-lt _ a all) (xor_lt 32 _ _ (xor_lt 32 _ _ fits_first fits_second) fits_third) (λ i lt.
    let p : ℕ = (i + a) % 32 in
    let at_second : (p + b) % 32 ≡ (i + (a + b)) % 32 = omega arith in
    let at_third : (p + (b + c)) % 32 ≡ (i + (a + (b + c))) % 32 = omega arith in
    let one : bit_at x p ≡ bit_at first i = sym (turned-bit x a i pa (omega arith) fits lt) in
    let two : bit_at near p ≡ bit_at second i =
    turned-bit x b p pb (omega arith) fits (omega arith)
    ∙ ap (bit_at x) at_second ∙ sym (turned-bit x (a + b) i (omega arith) (omega arith) fits lt) in
    let three : bit_at far p ≡ bit_at third i =
    turned-bit x (b + c) p (omega arith) (omega arith) fits (omega arith)
    ∙ ap (bit_at x) at_third ∙ sym (turned-bit x (a + (b + c)) i (omega arith) low fits lt) in
    turned-bit _ a i pa (omega arith) all lt
    ∙ bit_at_xor x (bit_xor near far) p ∙ ap (λ (n : ℕ). (bit_at x p + n) % 2) (bit_at_xor near far p)
    ∙ (λ t. (one t + (two t + three t) % 2) % 2) ∙ flip (bit_at first i) (bit_at second i) (bit_at third i)
    ∙ sym (bit_at_xor (bit_xor first second) third i ∙ ap (λ (n : ℕ). (n + bit_at third i) % 2) (bit_at_xor first second i)))
