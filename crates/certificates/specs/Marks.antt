-- Sets of shards as eight marks.
use Rattle.std.specs.Prelude.{ℕ, List, Bool, not, ◌&&◌}
use Rattle.txn_meta.specs.Places.{is_marked}

-- in the one set and not in the other
abbrev pub is_apart : List Bool → List Bool → ℕ → Bool
is_apart marks others shard = is_marked marks shard && not (is_marked others shard)
