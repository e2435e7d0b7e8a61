-- The sizes and ranges of arguments.
use Rattle.std.specs.Prelude.{ℕ}

-- bytes of a seed
abbrev pub seed_size : ℕ
seed_size = 32

-- bytes of an identifier (RFC 8554, section 5.3)
abbrev pub ident_size : ℕ
ident_size = 16

-- leaves of the highest tree of a set
abbrev pub most_leaves : ℕ
most_leaves = 1024

-- transactions of a load
abbrev pub most_drawn : ℕ
most_drawn = 2000
