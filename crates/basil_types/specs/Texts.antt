-- Texts of bytes, and what is a key, a value or a version.
use Rattle.std.specs.Prelude.{◌≡◌, ℕ, ◌<◌, ◌≤◌, List, Bool, length, slice_index}
use Rattle.std.specs.Ordering.{nat_cmp, is_lt}
use Rattle.std.specs.Cmp.Lexicographic.{slice_cmp}
use Rattle.basil_types.specs.Limits.{IsU64, id_size, longest_key, longest_value}
use Rattle.basil_types.specs.declared.version.Version.{Version}

abbrev pub IsBytes : List ℕ → Type 0
IsBytes bytes = (i : ℕ) → slice_index bytes i < 256

-- by bytes
abbrev pub key_below : List ℕ → List ℕ → Bool
key_below a b = is_lt (slice_cmp nat_cmp a b)

-- ---- what is a key, a value or a version

pub record IsKey (key : List ℕ) : Type 0 where
  pub some : 1 ≤ length key
  pub short : length key ≤ longest_key
  pub bytes : IsBytes key

pub record IsValue (value : List ℕ) : Type 0 where
  pub short : length value ≤ longest_value
  pub bytes : IsBytes value

pub record IsVersion (v : Version) : Type 0 where
  pub time : IsU64 v.time
  pub client : v.client < 256
  pub id : length v.id ≡ id_size
  pub bytes : IsBytes v.id
