-- What the words of a key stream draw.
use Rattle.std.specs.Prelude.{ℕ, ◌+◌, ◌-◌, ◌*◌, ◌%◌, List, ◌++◌, replicate}
use Rattle.std.specs.Int.{w64, to_le_bytes}
use Rattle.rand_chacha.specs.ChaCha.{ChaCha, key_of, word_at}
use Rattle.load_maker.specs.declared.draws.Draw.{Draw}

-- the number as 8 bytes, the lowest first, and 24 zero bytes
abbrev pub key_bytes : ℕ → List ℕ
key_bytes seed = to_le_bytes w64 seed ++ replicate 24 0

-- stream 0 of ChaCha20 under that key, at this place
abbrev pub stream_at : (seed place : ℕ) → ChaCha
stream_at seed place = record { key = key_of (key_bytes seed); stream = 0; word_pos = place }

-- the word of ChaCha20, with its ten double rounds, that stands so many places behind the next one
abbrev pub word : ChaCha → (behind : ℕ) → ℕ
word stream behind = word_at 10 stream.key stream.stream (stream.word_pos + behind)

-- what the next four words draw
abbrev pub draw_from : ChaCha → Draw
draw_from stream = record {
  client = 1 + word stream 0 % 8;
  key = word stream 1 % 16;
  other = word stream 2 % 16;
  rounds = word stream 3 % 4;
}

-- what the i-th four words draw, for i from 1
abbrev pub draw_of : (seed i : ℕ) → Draw
draw_of seed i = draw_from (stream_at seed (4 * (i - 1)))
