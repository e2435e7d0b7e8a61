-- C of a leaf: the first 32 bytes of the ChaCha20 key stream with SEED as key and stream q + 1.
use Rattle.std.specs.Prelude.{ℕ, zero, suc, ◌+◌, List, [], ◌++◌}
use Rattle.std.specs.Int.{w32, to_le_bytes}
use Rattle.rand_chacha.specs.ChaCha.{word_at, key_of}

-- the first n words of a stream, each with its low byte first
unfoldable pub stream_bytes : List ℕ → ℕ → ℕ → List ℕ
stream_bytes seed stream zero = []
stream_bytes seed stream (suc n) = stream_bytes seed stream n ++ to_le_bytes w32 (word_at 10 (key_of seed) stream n)

unfoldable pub randomizer_of : List ℕ → ℕ → List ℕ
randomizer_of seed q = stream_bytes seed (q + 1) 8
