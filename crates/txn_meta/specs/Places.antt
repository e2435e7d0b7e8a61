-- Where the keys of a transaction lie.
use Rattle.std.specs.Prelude.{ℕ, ◌+◌, ◌%◌, List, [], ◌∷◌, Bool, ◌==◌, ◌||◌, length, map}
use Rattle.std.specs.Prelude.{slice_index, slice_index_or, false, sum, if◌then◌else◌}
use Rattle.std.specs.List.{list_any}
use Rattle.quorum_laws.specs.Numbers.{replicas}
use Rattle.basil_types.specs.Setting.{Setting}
use Rattle.basil_types.specs.Transaction.{TransactionValue}

-- the sum of a key's bytes, modulo the number of shards
abbrev pub shard_of : Setting → List ℕ → ℕ
shard_of c key = sum key % c.shards

-- whether a key that was read is of this shard
abbrev pub reads_of : Setting → TransactionValue → ℕ → Bool
reads_of c t shard = list_any (λ r. shard_of c r.key == shard) t.reads

-- whether a key that was written or deleted is of this shard
abbrev pub writes_of : Setting → TransactionValue → ℕ → Bool
writes_of c t shard = list_any (λ w. shard_of c w.key == shard) t.writes

abbrev pub involves : Setting → TransactionValue → ℕ → Bool
involves c t shard = reads_of c t shard || writes_of c t shard

-- a set of shards, as eight marks
abbrev pub marks_of : Setting → TransactionValue → List Bool
marks_of c t = map (involves c t) (0 ∷ 1 ∷ 2 ∷ 3 ∷ 4 ∷ 5 ∷ 6 ∷ 7 ∷ [])

abbrev pub is_marked : List Bool → ℕ → Bool
is_marked marks shard = slice_index_or marks shard false

-- the marked numbers from this one on, ascending
abbrev pub members_from : ℕ → List Bool → List ℕ
members_from shard [] = []
members_from shard (mark ∷ marks) =
    if mark then shard ∷ members_from (shard + 1) marks else members_from (shard + 1) marks

abbrev pub members : List Bool → List ℕ
members marks = members_from 0 marks

-- the shards of a transaction's keys, ascending
abbrev pub involved : Setting → TransactionValue → List ℕ
involved c t = members (marks_of c t)

-- the shard that logs the decision: of the involved shards, ascending, the one at the place of the time modulo their
-- number
abbrev pub log_shard : Setting → TransactionValue → ℕ
log_shard c t = slice_index (involved c t) (t.time % length (involved c t))

-- the replica of the log shard that leads a view of a transaction of this time
abbrev pub leader_of : Setting → ℕ → ℕ → ℕ
leader_of c time view = (time + view) % replicas c.f
