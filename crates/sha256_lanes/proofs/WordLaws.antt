-- The bytes of a string, as words and back.
use Rattle.std.proofs.Common.{◌≡◌, ℕ, zero, suc, ◌<◌, ◌≤◌, ◌+◌, ◌*◌, List, ◌++◌, length, take}
use Rattle.std.proofs.Common.{get_or, slice_index, arith, refl, sym, take-add, add-zero, inl, inr}
use Rattle.std.specs.Int.{w32, to_be_bytes}
use Rattle.std.proofs.lemmas.Nat.{be_bytes_4}
use Rattle.std.proofs.lemmas.Bool.{cases_lt}
use Rattle.std.proofs.lemmas.List.{get_or_past}
use Rattle.std.proofs.lemmas.Simd.{length-chunk, get_or-chunk}
use Rattle.std.specs.Simd.Lanes.{chunk}
use Rattle.sha2.specs.Sha256.{digest_bytes, word_at}

bytes-word : (p : List ℕ) (at : ℕ) → ((i : ℕ) → get_or p i 0 < 256) → at + 4 ≤ length p → to_be_bytes w32 (word_at p at) ≡ chunk at 4 p
bytes-word p at small room =
    let bs = chunk at 4 p in
    let len : length bs ≡ 4 = length-chunk at 4 p room in
    let b0 : slice_index bs 0 ≡ slice_index p at = rw add-zero at (get_or-chunk at 4 p 0 0 (omega arith)) in
    let b1 : slice_index bs 1 ≡ slice_index p (at + 1) = get_or-chunk at 4 p 1 0 (omega arith) in
    let b2 : slice_index bs 2 ≡ slice_index p (at + 2) = get_or-chunk at 4 p 2 0 (omega arith) in
    let b3 : slice_index bs 3 ≡ slice_index p (at + 3) = get_or-chunk at 4 p 3 0 (omega arith) in
    let fits : (i : ℕ) → get_or bs i 0 < 256 = λ i. elim (cases_lt i 4) [
      | inl lt ↦ rw (get_or-chunk at 4 p i 0 lt) (small (at + i))
      | inr ge ↦ rw (get_or_past bs i 0 (omega arith)) (omega arith)
    ] in
    be_bytes_4 bs (word_at p at) len fits (rw (b0, b1, b2, b3) refl)

-- the first n words of a string are its first 4n bytes
pub bytes-words : (p h : List ℕ) → ((i : ℕ) → get_or p i 0 < 256) → (n : ℕ) → 4 * n ≤ length p
    → ((i : ℕ) → i < n → slice_index h i ≡ word_at p (4 * i)) → digest_bytes h n ≡ take (4 * n) p
unfolding digest_bytes
bytes-words p h small zero room words = refl
bytes-words p h small (suc n) room words =
    let front = bytes-words p h small n (omega arith) (λ i lt. words i (omega arith)) in
    let last = bytes-word p (4 * n) small (omega arith) in
    let more : 4 * suc n ≡ 4 * n + 4 = omega arith in
    let whole : take (4 * n + 4) p ≡ take (4 * n) p ++ chunk (4 * n) 4 p = take-add (4 * n) 4 p in
    rw (more, front, words n (omega arith), last) (sym whole)
