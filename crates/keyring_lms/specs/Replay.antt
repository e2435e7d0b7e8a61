-- The keys of a replay.
use Rattle.std.specs.Prelude.{◌≡◌, ℕ, ◌+◌, ◌*◌, nat_lt, nat_le, Bool, ◌&&◌, ◌||◌, List}
use Rattle.std.specs.Prelude.{◌++◌, map, Option, Some, None, option_map, if◌then◌else◌}
use Rattle.std.specs.List.{find, flat_map, list_any, range_with_len}
use Rattle.basil_types.specs.Limits.{most_clients}
use Rattle.basil_types.specs.Setting.{Setting}
use Rattle.basil_types.specs.declared.party.Party.{Party}
use Rattle.basil_types.specs.declared.party.Party.TheVariants.{Replica, Client}
use Rattle.keyring.specs.Plain.{seed_of}
use Rattle.lms_sign.specs.declared.sets.LmsSet.{LmsSet}
use Rattle.lms_sign.specs.Tree.{Tree, tree_of, ident_of_seed, public_of}
use Rattle.keyring_lms.specs.Keys.{is_same, is_valid_under}

-- the tree of a party, over its seed
abbrev pub tree_in_replay : LmsSet → Party → Tree
tree_in_replay set party = tree_of set (ident_of_seed (seed_of party)) (seed_of party)

-- a party with its public key
abbrev pub entry_of : LmsSet → Party → Party × List ℕ
entry_of set party = (party, public_of (tree_in_replay set party))

-- the replicas of a shard, and the parties of a cluster: the replicas of each shard, and the clients 1 to 16
abbrev pub replicas_of : ℕ → ℕ → List Party
replicas_of n shard = map (λ index. Replica shard index) (range_with_len 0 n)

abbrev pub clients : List Party
clients = map (λ number. Client number) (range_with_len 1 most_clients)

abbrev pub parties_of : Setting → List Party
parties_of cluster =
    flat_map (replicas_of (5 * cluster.f + 1)) (range_with_len 0 cluster.shards) ++ clients

-- whether a party is one of a cluster's
abbrev pub is_party_of : Setting → Party → Bool
is_party_of cluster (Replica shard index) = nat_lt shard cluster.shards && nat_lt index (5 * cluster.f + 1)
is_party_of cluster (Client number) = nat_le 1 number && nat_le number most_clients

-- the public key of a party in a replay, if it is one of the cluster's
abbrev pub public_in_replay : Setting → LmsSet → Party → Option (List ℕ)
public_in_replay cluster set party =
    if is_party_of cluster party then Some (public_of (tree_in_replay set party)) else None

-- what is valid under the replay key of a party of the cluster
abbrev pub replay_accepts : Setting → LmsSet → Party → List ℕ → List ℕ → Bool
replay_accepts cluster set party words signature = is_valid_under (public_in_replay cluster set party) words signature

-- the trees of parties, each with its party
abbrev pub tree_entry : LmsSet → Party → Party × Tree
tree_entry set party = (party, tree_in_replay set party)

abbrev pub public_entry : Party × Tree → Party × List ℕ
public_entry entry = (entry.0, public_of entry.1)

-- the tree of the first entry of a party, if it has one
abbrev pub tree_found : List (Party × Tree) → Party → Option Tree
tree_found list party =
    option_map (λ (entry : Party × Tree). entry.1) (find (λ (entry : Party × Tree). is_same entry.0 party) list)

-- the keys of a whole replay: its cluster and its set
pub record Replay : Type 0 where
  pub cluster : Setting
  pub set : LmsSet

-- whether a party is listed
abbrev pub is_listed : List Party → Party → Bool
is_listed parties party = list_any (λ (one : Party). is_same one party) parties

-- the parties of a cluster that are listed
abbrev pub AreListedOf : Setting → List Party → List Party → Type 0
AreListedOf cluster listed parties =
    (party : Party) → is_listed parties party ≡ (is_listed listed party && is_party_of cluster party)

-- one party more, if it is one of the cluster's
abbrev pub HasOneMore : Setting → Party → List Party → List Party → Type 0
HasOneMore cluster added before after =
    (party : Party)
    → is_listed after party ≡ (is_listed before party || (is_same added party && is_party_of cluster party))

-- what the replay keyring accepts of the parties that are listed, and nothing of the others
abbrev pub listed_accepts : Setting → LmsSet → List Party → Party → List ℕ → List ℕ → Bool
listed_accepts cluster set listed party words signature =
    is_listed listed party && replay_accepts cluster set party words signature
