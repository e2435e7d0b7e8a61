-- Fields read from left to right, with the first fault that is met. A fault tells how many bytes are left where its
-- field begins.
use Rattle.std.specs.Prelude.{◌+◌, ℕ, List, [], ◌∷◌, length, take, drop, Result, Ok}
use Rattle.std.specs.Prelude.{Err, nat_lt, nat_le, ◌==◌, ◌&&◌, Bool, if◌then◌else◌}
use Rattle.std.specs.Int.{Width, w16, w64, byte_len, from_be_bytes}
use Rattle.basil_types.specs.Limits.{id_size, longest_key, longest_value}
use Rattle.basil_types.specs.declared.reading.Fault.{Fault}
use Rattle.basil_types.specs.declared.reading.Fault.TheVariants.{Short, Range, Order}
use Rattle.basil_types.specs.declared.version.Version.{Version}
use Rattle.basil_types.specs.Texts.{key_below}
use Rattle.basil_types.specs.Steps.{◌>>=◌}

abbrev pub byte_at : List ℕ → Result (ℕ × List ℕ) Fault
byte_at [] = Err (Short 0)
byte_at (b ∷ rest) = Ok (b, rest)

-- a byte from low on, below high
unfoldable pub between : ℕ → ℕ → List ℕ → Result (ℕ × List ℕ) Fault
between low high bytes = do
  b ← byte_at bytes
  if nat_le low b.0 && nat_lt b.0 high then Ok b else Err (Range (length bytes))

-- 0 or 1
unfoldable pub flag_at : List ℕ → Result (Bool × List ℕ) Fault
flag_at bytes = do
  b ← between 0 2 bytes
  Ok (b.0 == 1, b.1)

abbrev pub number_at : Width → List ℕ → Result (ℕ × List ℕ) Fault
number_at w bytes =
    if nat_lt (length bytes) (byte_len w) then Err (Short (length bytes)) else Ok
    (from_be_bytes w (take (byte_len w) bytes), drop (byte_len w) bytes)

abbrev pub run_at : ℕ → List ℕ → Result (List ℕ × List ℕ) Fault
run_at n bytes = if nat_lt (length bytes) n then Err (Short (length bytes)) else Ok (take n bytes, drop n bytes)

-- a key: its length, and then its bytes
unfoldable pub key_at : List ℕ → Result (List ℕ × List ℕ) Fault
key_at bytes = do
  n ← between 1 (longest_key + 1) bytes
  run_at n.0 n.1

-- a whole key above the one before it in its list; before the first stands the empty key
unfoldable pub next_key_at : List ℕ → List ℕ → Result (List ℕ × List ℕ) Fault
next_key_at before bytes = do
  key ← key_at bytes
  if key_below before key.0 then Ok key else Err (Order (length bytes))

-- a value: its length, and then its bytes
unfoldable pub value_at : List ℕ → Result (List ℕ × List ℕ) Fault
value_at bytes = do
  n ← number_at w16 bytes
  if nat_le n.0 longest_value then run_at n.0 n.1 else Err (Range (length bytes))

unfoldable pub version_parts_at : List ℕ → Result (Version × List ℕ) Fault
version_parts_at bytes = do
  time ← number_at w64 bytes
  client ← byte_at time.1
  id ← run_at id_size client.1
  Ok (record { time = time.0; client = client.0; id = id.0 }, id.1)

-- one field of 41 bytes
unfoldable pub version_at : List ℕ → Result (Version × List ℕ) Fault
version_at bytes = if nat_lt (length bytes) 41 then Err (Short (length bytes)) else version_parts_at bytes
