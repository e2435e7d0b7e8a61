-- The state of a run.
use Rattle.std.specs.Prelude.{ℕ, ◌-◌, ◌≤◌, ◌==◌, ◌&&◌, find, nat_le, slice_get}
use Rattle.std.specs.Prelude.{if◌then◌else◌, List, [], ◌∷◌, Bool, Option, None, map}
use Rattle.std.specs.List.{flat_map, list_any, range_with_len}
use Rattle.basil_types.specs.Limits.{most_clients}
use Rattle.basil_types.specs.declared.party.Party.{Party}
use Rattle.basil_types.specs.declared.party.Party.TheVariants.{Replica, Client}
use Rattle.basil_types.specs.declared.transaction.parts.ReadPart.{ReadPart}
use Rattle.basil_types.specs.declared.transaction.parts.WritePart.{WritePart}
use Rattle.basil_types.specs.Setting.{Setting, IsSetting}
use Rattle.basil_types.specs.Transaction.{TransactionValue}
use Rattle.certificates.specs.Accepted.{Accepted}
use Rattle.frame_views.specs.Values.{PairValue}
use Rattle.keyring.specs.Signing.{Signing}
use Rattle.quorum_laws.specs.Sets.{size}
use Rattle.quorum_laws.specs.Numbers.{replicas}
use Rattle.txn_table.specs.Entries.{same_party}
use Rattle.replica_core.specs.Replicas.{BookValue, empty_book}
use Rattle.node_steps.specs.Pens.{PenValue}
use Rattle.client_core.specs.Clients.{ClientValue, empty_client}
pub use Rattle.message_pool.specs.declared.posted.Fate.TheVariants.{Waiting, Delivered, Lost}
pub use Rattle.message_pool.specs.declared.posted.Posted.{Posted}
use Rattle.message_pool.specs.Posts as pools
use Rattle.premise_watch.specs.Breaches.{NotedWords, WatchValue}

-- what the keyrings accept, how the pen of each party signs, and where it begins
pub record KitValue : Type 0 where
  pub accepts : Accepted
  pub signing : Party → Signing
  pub pen : Party → PenValue

-- what is fixed in a run
pub record Setup : Type 0 where
  pub cluster : Setting
  pub faulty : List Party
  -- the first moment of every replica
  pub clock : ℕ
  -- the limits of the pool
  pub messages : ℕ
  pub bytes : ℕ
  pub kit : KitValue

abbrev pub is_faulty : Setup → Party → Bool
is_faulty s p = list_any (same_party p) s.faulty

-- at most f replicas of each shard are faulty
pub record IsSetup (s : Setup) : Type 0 where
  pub setting : IsSetting s.cluster
  pub few : (shard : ℕ) → size (λ r. is_faulty s (Replica shard r)) (replicas s.cluster.f) ≤ s.cluster.f

-- ---- begun transactions

pub record FormedValue : Type 0 where
  pub transaction : TransactionValue
  pub signature : List ℕ

-- of a correct client its slot; of a faulty one its reads and writes so far
pub record BegunValue : Type 0 where
  pub client : ℕ
  pub time : ℕ
  pub slot : Option ℕ
  pub reads : List ReadPart
  pub writes : List WritePart
  pub formed : Option FormedValue

-- ---- the state

-- a replica of the cluster, its moment and its book
pub record Standing : Type 0 where
  pub shard : ℕ
  pub index : ℕ
  pub moment : ℕ
  pub book : BookValue

pub record State : Type 0 where
  -- the replicas, shard by shard
  pub replicas : List Standing
  -- of each client, from client 1 on
  pub clients : List ClientValue
  -- the words that events had faulty parties sign
  pub lied : List NotedWords
  pub begun : List BegunValue
  pub pool : List Posted
  pub watch : WatchValue
  -- the pairs that were seen of a transaction and a certificate that proves a decision on it, in order
  pub certified : List PairValue
  -- the message that a node refused last
  pub refused : Option ℕ

abbrev pub is_at : (shard index : ℕ) → Standing → Bool
is_at shard index x = (x.shard == shard) && (x.index == index)

-- the replica of this place, if it is one of the cluster
abbrev pub standing : State → (shard index : ℕ) → Option Standing
standing st shard index = find (is_at shard index) st.replicas

abbrev pub put_standing : Standing → List Standing → List Standing
put_standing x [] = []
put_standing x (y ∷ ys) = if is_at x.shard x.index y then x ∷ ys else y ∷ put_standing x ys

-- the client of this number, from 1 on
abbrev pub client_at : State → ℕ → Option ClientValue
client_at st number = if nat_le 1 number then slice_get st.clients (number - 1) else None

-- the message of this number, from 1 on
abbrev pub posted_at : State → ℕ → Option Posted
posted_at st message = pools.posted_at st.pool message

abbrev pub first_standing : Setup → (shard index : ℕ) → Standing
first_standing s shard r =
    record { shard = shard; index = r; moment = s.clock; book = empty_book (s.kit.pen (Replica shard r)) }

abbrev pub shard_standing : Setup → ℕ → List Standing
shard_standing s shard = map (first_standing s shard) (range_with_len 0 (replicas s.cluster.f))

abbrev pub start : Setup → State
start s = record {
  replicas = flat_map (shard_standing s) (range_with_len 0 s.cluster.shards);
  clients = map (λ number. empty_client (s.kit.pen (Client number))) (range_with_len 1 most_clients);
  lied = [];
  begun = [];
  pool = [];
  watch = record { faulty = s.faulty; signed = []; texts = [] };
  certified = [];
  refused = None;
}
