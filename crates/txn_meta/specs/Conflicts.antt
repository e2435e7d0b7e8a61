-- Which transactions conflict.
use Rattle.std.specs.Prelude.{◌≡◌, ℕ, ◌<◌, Bool, true, false, not, ◌&&◌, ◌||◌, ◌==◌, ◌↔◌}
use Rattle.std.specs.List.{list_any}
use Rattle.std.specs.Str.{bytes_eq}
use Rattle.basil_types.specs.declared.transaction.parts.ReadPart.{ReadPart}
use Rattle.basil_types.specs.Setting.{Setting, IsSetting}
use Rattle.basil_types.specs.Transaction.{TransactionValue, IsTransaction, canonical, version_of, writes_key}
use Rattle.basil_types.specs.Version.{is_between}
use Rattle.txn_meta.specs.Places.{shard_of, involves}

-- two transactions, by their canonical bytes
abbrev pub differ : TransactionValue → TransactionValue → Bool
differ t u = not (bytes_eq (canonical t) (canonical u))

-- whether a read of the reader is crossed by the writer: the writer wrote or deleted the key at its version, which
-- stands between the version that was read and the reader's own
abbrev pub crosses : (writer reader : TransactionValue) → ReadPart → Bool
crosses writer reader r = writes_key writer r.key && is_between r.version (version_of writer) (version_of reader)

abbrev pub is_crossed : (reader writer : TransactionValue) → Bool
is_crossed reader writer = list_any (crosses writer reader) reader.reads

abbrev pub conflict : TransactionValue → TransactionValue → Bool
conflict t u = differ t u && (is_crossed t u || is_crossed u t)

-- ---- on the keys of one shard

-- the read is of a key of the shard
abbrev pub crosses_in : Setting → (shard : ℕ) → (writer reader : TransactionValue) → ReadPart → Bool
crosses_in c shard writer reader r = shard_of c r.key == shard && crosses writer reader r

abbrev pub is_crossed_in : Setting → (shard : ℕ) → (reader writer : TransactionValue) → Bool
is_crossed_in c shard reader writer = list_any (crosses_in c shard writer reader) reader.reads

abbrev pub conflict_in : Setting → (shard : ℕ) → TransactionValue → TransactionValue → Bool
conflict_in c shard t u = is_crossed_in c shard t u || is_crossed_in c shard u t

-- ---- laws

abbrev pub ConflictIsSymmetric : Type 0
ConflictIsSymmetric = (t u : TransactionValue) → conflict t u ≡ conflict u t

abbrev pub NoConflictWithItself : Type 0
NoConflictWithItself = (t : TransactionValue) → conflict t t ≡ false

-- the same of the keys of one shard, which each of the two has some of where they conflict
pub record ShardConflicts : Type 0 where
  pub symmetric : (c : Setting) (shard : ℕ) (t u : TransactionValue) → conflict_in c shard t u ≡ conflict_in c shard u t
  pub not_itself : (c : Setting) (shard : ℕ) (t : TransactionValue) → conflict_in c shard t t ≡ false
  pub involved : (c : Setting) (shard : ℕ) (t u : TransactionValue) →
      conflict_in c shard t u ≡ true → involves c t shard ≡ true

-- two transactions conflict exactly where they do on the keys of some shard
abbrev pub ConflictsAreOfShards : Type 0
ConflictsAreOfShards =
    (c : Setting) (t u : TransactionValue) → IsSetting c → IsTransaction t → IsTransaction u →
    (conflict t u ≡ true) ↔ ((shard : ℕ) × (shard < c.shards) × (conflict_in c shard t u ≡ true))
