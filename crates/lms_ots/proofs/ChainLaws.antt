-- Facts about chains and the strings that they make.
use Rattle.std.proofs.Common.{◌≡◌, ℕ, zero, suc, ◌+◌, ◌-◌, ◌*◌, ◌≤◌, ◌<◌, List, [], ◌∷◌, ◌++◌}
use Rattle.std.proofs.Common.{length, take, drop, refl, ap, subst, add-one, arith, inl, inr}
use Rattle.std.proofs.lemmas.List.{length-append, drop_at, take_all, take-append-le, drop-append-le, length-drop}
use Rattle.std.proofs.lemmas.Bool.{cases_lt}
use Rattle.sha2.proofs.Facts256.{length-sha256}
use Rattle.sha2.specs.Sha256.{sha256}
use Rattle.lms_ots.specs.declared.sets.OtsSet.{OtsSet}
use Rattle.lms_ots.specs.Sets.{chains_of}
use Rattle.sha256_lanes.specs.Chains.{step_of, steps}
use Rattle.lms_ots.specs.Chains.{Leaf, head, start_of, chain, joined, key_of_ends}

pub joined_more : (y : ℕ → List ℕ) (n : ℕ) → joined y (n + 1) ≡ joined y n ++ y n
unfolding joined
joined_more y n = rw add-one refl

-- the same pieces make the same string
pub joined-same : (y z : ℕ → List ℕ) (n : ℕ) → ((i : ℕ) → i < n → y i ≡ z i) → joined y n ≡ joined z n
unfolding joined
joined-same y z zero h = refl
joined-same y z (suc n) h =
    let first : joined y n ≡ joined z n = joined-same y z n (λ i lt. h i (omega arith)) in
    rw (first, h n (omega arith)) refl

-- the same ends make the same key
pub key-same : (set : OtsSet) (leaf : Leaf) (y z : ℕ → List ℕ) →
    ((i : ℕ) → i < chains_of set → y i ≡ z i) → key_of_ends set leaf y ≡ key_of_ends set leaf z
unfolding key_of_ends
key-same set leaf y z h = ap (λ (t : List ℕ). sha256 (head leaf ++ 0x80 ∷ 0x80 ∷ [] ++ t)) (joined-same y z (chains_of set) h)

pub length-joined : (y : ℕ → List ℕ) → ((i : ℕ) → length (y i) ≡ 32) → (n : ℕ) → length (joined y n) ≡ 32 * n
unfolding joined
length-joined y h zero = refl
length-joined y h (suc n) = omega (arith, length-append (joined y n) (y n), length-joined y h n, h n)

-- piece i of n pieces of 32 bytes
pub joined-part : (y : ℕ → List ℕ) → ((i : ℕ) → length (y i) ≡ 32) → (n i : ℕ) → i < n → take 32 (drop (32 * i) (joined y n)) ≡ y i
unfolding joined
joined-part y h zero i lt = absurd (omega arith)
joined-part y h (suc n) i lt =
    let len = length-joined y h n in
    elim (cases_lt i n) [
      | inl below ↦
          let inside : 32 * i ≤ length (joined y n) = omega (arith, len) in
          let room : 32 ≤ length (drop (32 * i) (joined y n)) = omega (arith, len, length-drop (32 * i) (joined y n)) in
          rw (drop-append-le (32 * i) (joined y n) (y n) inside, take-append-le 32 (drop (32 * i) (joined y n)) (y n) room)
          (joined-part y h n i below)
      | inr above ↦
          let same : n ≡ i = omega arith in
          let P : ℕ → Type 0 = λ k. take 32 (drop (32 * k) (joined y n ++ y n)) ≡ y k in
          subst P same (rw (drop_at (joined y n) (y n) (32 * n) len) (take_all 32 (y n) (omega (arith, h n))))
    ]

pub length-start : (leaf : Leaf) (seed : List ℕ) (i : ℕ) → length (start_of leaf seed i) ≡ 32
unfolding start_of
length-start leaf seed i = length-sha256 _

pub length-steps : (head : List ℕ) (i from n : ℕ) (x : List ℕ) → length x ≡ 32 → length (steps head i from n x) ≡ 32
unfolding steps step_of
length-steps head i from zero x h = h
length-steps head i from (suc n) x h = length-sha256 _

steps-then : (head : List ℕ) (i from m n : ℕ) (x : List ℕ) → steps head i from (m + n) x ≡ steps head i (from + m) n (steps head i from m x)
unfolding steps
steps-then head i from m zero x = let e : m + 0 ≡ m = omega arith in rw e refl
steps-then head i from m (suc n) x =
    let e : m + suc n ≡ suc (m + n) = omega arith in
    let k : from + (m + n) ≡ (from + m) + n = omega arith in
    rw (e, k, steps-then head i from m n x) refl

-- a chain goes on where another ends
pub chain-then : (leaf : Leaf) (i a to : ℕ) (x : List ℕ) → a ≤ to → chain leaf i a to (chain leaf i 0 a x) ≡ chain leaf i 0 to x
chain-then leaf i a to x le =
    let front : a - 0 ≡ a = omega arith in
    let whole : to - 0 ≡ a + (to - a) = omega arith in
    let at : 0 + a ≡ a = omega arith in
    let h : List ℕ = head leaf in
    let goes : steps h i 0 (a + (to - a)) x ≡ steps h i a (to - a) (steps h i 0 a x) =
    subst (λ (k : ℕ). steps h i 0 (a + (to - a)) x ≡ steps h i k (to - a) (steps h i 0 a x)) at (steps-then h i 0 a (to - a) x) in
    rw (front, whole, goes) refl
