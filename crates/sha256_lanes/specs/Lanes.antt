-- Eight states or blocks side by side: each word is a vector, with one word in each lane.
use Rattle.std.specs.Prelude.{◌≡◌, ℕ, ◌*◌, ◌<◌, List, [], ◌∷◌, slice_index, slice_index_or}
use Rattle.std.specs.Int.{w32, to_be_bytes}
use Rattle.sha2.specs.Sha256.{word_at}

-- lane k of vector i
abbrev pub lane_at : List (List ℕ) → ℕ → ℕ → ℕ
lane_at x i k = slice_index (slice_index_or x i []) k

-- the eight words of lane k
abbrev pub state_of : ℕ → List (List ℕ) → List ℕ
state_of k x =
    lane_at x 0 k ∷ lane_at x 1 k ∷ lane_at x 2 k ∷ lane_at x 3 k
    ∷ lane_at x 4 k ∷ lane_at x 5 k ∷ lane_at x 6 k ∷ lane_at x 7 k ∷ []

-- the sixteen words of lane k
abbrev pub block_of : ℕ → List (List ℕ) → List ℕ
block_of k x =
    lane_at x 0 k ∷ lane_at x 1 k ∷ lane_at x 2 k ∷ lane_at x 3 k
    ∷ lane_at x 4 k ∷ lane_at x 5 k ∷ lane_at x 6 k ∷ lane_at x 7 k
    ∷ lane_at x 8 k ∷ lane_at x 9 k ∷ lane_at x 10 k ∷ lane_at x 11 k
    ∷ lane_at x 12 k ∷ lane_at x 13 k ∷ lane_at x 14 k ∷ lane_at x 15 k ∷ []

-- lane k of the words is the block b
abbrev pub HoldsBlock : ℕ → List (List ℕ) → List ℕ → Type 0
HoldsBlock k words b = (i : ℕ) → i < 16 → lane_at words i k ≡ word_at b (4 * i)

-- byte i of a word, the high one first
abbrev pub byte_of : ℕ → ℕ → ℕ
byte_of x i = slice_index (to_be_bytes w32 x) i

-- the padding of a message of 55 bytes: the byte 1000 0000, and its 440 bits as 8 bytes, high first (FIPS 180-4,
-- section 5.1.1)
abbrev pub padding_55 : List ℕ
padding_55 = 0x80 ∷ 0 ∷ 0 ∷ 0 ∷ 0 ∷ 0 ∷ 0 ∷ 1 ∷ 0xb8 ∷ []
