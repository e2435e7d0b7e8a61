-- How many clients and keys there may be, how large a number is, and how long keys, values, ids, signatures and frames
-- are, in bytes.
use Rattle.std.specs.Prelude.{ℕ, ◌<◌, ◌^◌}

-- clients are numbered from 1
abbrev pub most_clients : ℕ
most_clients = 16

-- of a transaction's reads, and of its writes
abbrev pub most_keys : ℕ
most_keys = 32

abbrev pub longest_key : ℕ
longest_key = 64

abbrev pub longest_value : ℕ
longest_value = 256

-- an id is a SHA-256 (FIPS 180-4)
abbrev pub id_size : ℕ
id_size = 32

abbrev pub signature_limit : ℕ
signature_limit = 8192

abbrev pub frame_limit : ℕ
frame_limit = 1048576

-- a number of 64 bits
abbrev pub IsU64 : ℕ → Type 0
IsU64 n = n < 2 ^ 64
