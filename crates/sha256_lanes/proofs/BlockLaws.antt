-- A message of 55 bytes is one block, and the words of a step's block.
use Rattle.std.proofs.Common.{◌≡◌, ℕ, ◌<◌, ◌+◌, ◌*◌, ◌/◌, ◌%◌, ◌^◌, List, [], ◌∷◌, ◌++◌}
use Rattle.std.proofs.Common.{length, take, slice_index, bit_or, arith, ap, ◌∙◌, length-append}
use Rattle.std.specs.Int.{w16, w32, to_be_bytes, from_be_bytes}
use Rattle.std.proofs.lemmas.Nat.{or_shifted}
use Rattle.std.proofs.lemmas.List.{take_all}
use Rattle.sha2.specs.Sha256.{sha256, compress, hash_after, digest_bytes, initial_hash_256, padded_message, padding}
use Rattle.sha256_lanes.specs.Lanes.{padding_55}

padded_55 : (m : List ℕ) → length m ≡ 55 → padded_message m ≡ m ++ padding_55
padded_55 m len = ap (λ (n : ℕ). m ++ padding n) len

pub one_block : (m : List ℕ) → length m ≡ 55 → sha256 m ≡ digest_bytes (compress initial_hash_256 (m ++ padding_55)) 8
unfolding sha256 hash_after
one_block m len =
    let p = m ++ padding_55 in
    let long : length p ≡ 64 = omega (arith, length-append m padding_55) in
    let one : length p / 64 ≡ 1 = omega (arith, long) in
    let whole : take 64 p ≡ p = take_all 64 p (omega (arith, long)) in
    rw (padded_55 m len, one) (ap (λ (b : List ℕ). digest_bytes (compress initial_hash_256 b) 8) whole)

-- a word a byte further on
pub shifted_word : (x y : ℕ) → x < 2 ^ 32 → y < 2 ^ 32
    → bit_or (x * 2 ^ 8 % 2 ^ 32) (y / 2 ^ 24)
    ≡ from_be_bytes w32 (slice_index (to_be_bytes w32 x) 1
    ∷ slice_index (to_be_bytes w32 x) 2 ∷ slice_index (to_be_bytes w32 x) 3 ∷ slice_index (to_be_bytes w32 y) 0 ∷ [])
shifted_word x y hx hy =
    let up : x * 2 ^ 8 % 2 ^ 32 ≡ x % 2 ^ 24 * 2 ^ 8 = omega arith in
    rw up (or_shifted (x % 2 ^ 24) 8 (y / 2 ^ 24) (omega arith) ∙ omega arith)

-- the last word of the message
pub last_word : (x : ℕ) → x < 2 ^ 32
    → bit_or (x * 2 ^ 8 % 2 ^ 32) 0x80
    ≡ from_be_bytes w32
    (slice_index (to_be_bytes w32 x) 1 ∷ slice_index (to_be_bytes w32 x) 2 ∷ slice_index (to_be_bytes w32 x) 3 ∷ 0x80 ∷ [])
last_word x hx =
    let up : x * 2 ^ 8 % 2 ^ 32 ≡ x % 2 ^ 24 * 2 ^ 8 = omega arith in
    rw up (or_shifted (x % 2 ^ 24) 8 0x80 (omega arith) ∙ omega arith)

-- the word of the chain's number i, the place j and the first byte of the value
pub place_word : (i j y : ℕ) → i < 2 ^ 16 → j < 2 ^ 8 → y < 2 ^ 32
    → bit_or (bit_or (i * 2 ^ 16 % 2 ^ 32) (j * 2 ^ 8 % 2 ^ 32)) (y / 2 ^ 24)
    ≡ from_be_bytes w32 (slice_index (to_be_bytes w16 i) 0 ∷ slice_index (to_be_bytes w16 i) 1 ∷ j ∷ slice_index (to_be_bytes w32 y) 0 ∷ [])
place_word i j y hi hj hy =
    let first : i * 2 ^ 16 % 2 ^ 32 ≡ i * 2 ^ 16 = omega arith in
    let second : j * 2 ^ 8 % 2 ^ 32 ≡ j * 2 ^ 8 = omega arith in
    let both : bit_or (i * 2 ^ 16) (j * 2 ^ 8) ≡ (i * 2 ^ 8 + j) * 2 ^ 8 = or_shifted i 16 (j * 2 ^ 8) (omega arith) ∙ omega arith in
    rw (first, second, both) (or_shifted (i * 2 ^ 8 + j) 8 (y / 2 ^ 24) (omega arith) ∙ omega arith)
