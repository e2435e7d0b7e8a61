-- Sets as masks of bits.
use Rattle.std.proofs.Common.{◌≡◌, ℕ, zero, suc, ◌+◌, ◌-◌, ◌*◌, ◌%◌, ◌^◌, ◌<◌, ◌≤◌, ◌==◌, nat_lt, Bool}
use Rattle.std.proofs.Common.{true, false, ◌&&◌, refl, arith, ◌∙◌, ap, min, inl, inr, ◌⊎◌, bit_and}
use Rattle.std.specs.Int.{bit_at}
use Rattle.std.proofs.Math.Nat.{mod-eq_of_lt, one-mul}
use Rattle.std.proofs.Math.Pow.{pow-lt}
use Rattle.std.proofs.lemmas.Bool.{cases_lt, lt-ltb, le-ltb}
use Rattle.std.proofs.lemmas.Nat.Bits.{bit_at_and, bit_at-lt, bit_at_ones, bit_at_ones_above, bit_at_above}
use Rattle.quorum_laws.specs.Sets.{size, shared, members}
use Rattle.quorum_laws.proofs.Counts.{sets_share, size_same}

bit_value : (b : ℕ) → b < 2 → (b ≡ 0) ⊎ (b ≡ 1)
bit_value zero h = inl refl
bit_value (suc zero) h = inr refl
bit_value (suc (suc b)) h = absurd (omega arith)

least : (b c : ℕ) → b < 2 → c < 2 → (min b c == 1) ≡ ((b == 1) && (c == 1))
least b c h k = elim (bit_value b h) [
  | inl e ↦ elim (bit_value c k) [ inl f ↦ rw (e, f) refl | inr f ↦ rw (e, f) refl ]
  | inr e ↦ elim (bit_value c k) [ inl f ↦ rw (e, f) refl | inr f ↦ rw (e, f) refl ]
]

-- the bits of both are the common members
members_and : (a b i : ℕ) → members (bit_and a b) i ≡ (members a i && members b i)
members_and a b i = ap (λ z. z == 1) (bit_at_and a b i) ∙ least (bit_at a i) (bit_at b i) (bit_at-lt a i) (bit_at-lt b i)

members_ones : (k i : ℕ) → members (2 ^ k - 1) i ≡ nat_lt i k
members_ones k i = elim (cases_lt i k) [
  | inl h ↦ rw (bit_at_ones k i h, lt-ltb i k h) refl
  | inr h ↦ rw (bit_at_ones_above k i h, le-ltb i k h) refl
]

-- a lower bound makes the higher one hold
lower_bound : (i n k : ℕ) → n ≤ k → nat_lt i n ≡ (nat_lt i n && nat_lt i k)
lower_bound i n k h = elim (cases_lt i n) [
  | inl l ↦ rw (lt-ltb i n l, lt-ltb i k (omega arith)) refl
  | inr l ↦ rw (le-ltb i n l) refl
]

pub below_few : (n i : ℕ) → n < 32 → members (1 * 2 ^ n % 4294967296 - 1) i ≡ (nat_lt i n && nat_lt i 32)
below_few n i h =
    let w : 2 ^ n < 2 ^ 32 = pow-lt h in
    let e : 1 * 2 ^ n % 4294967296 ≡ 2 ^ n = ap (λ m. m % 4294967296) (one-mul (2 ^ n)) ∙ mod-eq_of_lt w in
    ap (λ m. members (m - 1) i) e ∙ members_ones n i ∙ lower_bound i n 32 (omega arith)

pub below_all : (n i : ℕ) → 32 ≤ n → members 4294967295 i ≡ (nat_lt i n && nat_lt i 32)
below_all n i h = elim (cases_lt i 32) [
  | inl l ↦ members_ones 32 i ∙ (rw (lt-ltb i 32 l, lt-ltb i n (omega arith)) refl)
  | inr l ↦ members_ones 32 i ∙ (elim (nat_lt i n) as (λ b. nat_lt i 32 ≡ (b && nat_lt i 32)) [ true ↦ refl | false ↦ le-ltb i 32 l ])
]

-- a mask of 32 bits has no other members
within : (a i : ℕ) → a < 2 ^ 32 → members a i ≡ (nat_lt i 32 && members a i)
within a i h = elim (cases_lt i 32) [
  | inl l ↦ rw (lt-ltb i 32 l) refl
  | inr l ↦ rw (bit_at_above a 32 i h l) (elim (nat_lt i 32) as (λ b. false ≡ (b && false)) [ true ↦ refl | false ↦ refl ])
]

and_order : (a b n w : Bool) → a ≡ (w && a) → ((a && b) && (n && w)) ≡ (n && (a && b))
and_order true b true true h = elim b as (λ b. (b && true) ≡ b) [ true ↦ refl | false ↦ refl ]
and_order true b false true h = elim b as (λ b. (b && false) ≡ false) [ true ↦ refl | false ↦ refl ]
and_order true b n false h = let e : true ≡ false = h in cc
and_order false b true w h = refl
and_order false b false w h = refl

pub meets : (a b n m : ℕ) → a < 2 ^ 32 → ((i : ℕ) → members m i ≡ (nat_lt i n && nat_lt i 32)) →
    (i : ℕ) → members (bit_and (bit_and a b) m) i ≡ (nat_lt i n && (members a i && members b i))
meets a b n m h k i = members_and (bit_and a b) m i
    ∙ (rw (members_and a b i, k i) (and_order (members a i) (members b i) (nat_lt i n) (nat_lt i 32) (within a i h)))

pub meets_many : (a b n c : ℕ) → ((i : ℕ) → members c i ≡ (nat_lt i n && (members a i && members b i))) →
    size (members a) n + size (members b) n ≤ n + size (members c) n
meets_many a b n c h =
    let e = size_same (members c) (shared (members a) (members b)) n (λ i l. h i ∙ (rw (lt-ltb i n l) refl)) in
    omega (arith, sets_share n (members a) (members b))
