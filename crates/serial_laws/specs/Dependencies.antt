-- Which transactions a transaction depends on, by the keys of one shard.
use Rattle.std.specs.Prelude.{ℕ, List, Bool, ◌&&◌, ◌==◌}
use Rattle.std.specs.List.{list_any}
use Rattle.std.specs.Str.{bytes_eq}
use Rattle.basil_types.specs.Setting.{Setting}
use Rattle.basil_types.specs.Transaction.{TransactionValue}
use Rattle.basil_types.specs.declared.transaction.parts.ReadPart.{ReadPart}
use Rattle.txn_meta.specs.Places.{shard_of}

-- the read is of a key of the shard, and of a version of the transaction of this id that was only prepared
abbrev pub is_dependency_on : Setting → (shard : ℕ) → (id : List ℕ) → ReadPart → Bool
is_dependency_on c shard y r = r.dependency && (shard_of c r.key == shard) && bytes_eq r.version.id y

abbrev pub depends_on : Setting → (shard : ℕ) → TransactionValue → (id : List ℕ) → Bool
depends_on c shard t y = list_any (is_dependency_on c shard y) t.reads
