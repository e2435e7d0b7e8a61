-- One frame for many replicas, before its signature.
use Rattle.std.specs.Prelude.{ℕ, List, [], Option, None, Some, map}
use Rattle.std.specs.List.{flat_map}
use Rattle.basil_types.specs.declared.party.Party.TheVariants.{Replica}
use Rattle.basil_types.specs.Setting.{Setting}
use Rattle.basil_types.specs.Transaction.{TransactionValue}
use Rattle.client_recover.specs.Counting.{all_replicas}
use Rattle.node_steps.specs.Pendings.{Front}
use Rattle.txn_meta.specs.Places.{involved}

abbrev pub front_to : List ℕ → (shard index : ℕ) → Front
front_to bytes shard index = record { to = Replica shard index; bytes = bytes }

-- for each replica of a shard, ascending
abbrev pub fronts_to : Setting → List ℕ → ℕ → List Front
fronts_to c bytes shard = map (front_to bytes shard) (all_replicas c)

abbrev pub fronts_at : Setting → List ℕ → Option ℕ → List Front
fronts_at c bytes None = []
fronts_at c bytes (Some shard) = fronts_to c bytes shard

-- for each replica of each of these shards
abbrev pub fronts_of : Setting → List ℕ → List ℕ → List Front
fronts_of c bytes shards = flat_map (fronts_to c bytes) shards

-- for each replica of each involved shard
abbrev pub fronts_in : Setting → List ℕ → TransactionValue → List Front
fronts_in c bytes t = fronts_of c bytes (involved c t)
