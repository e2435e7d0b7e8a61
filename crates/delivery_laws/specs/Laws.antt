-- What deliveries do to the books of a run's replicas.
use Rattle.std.specs.Prelude.{◌≡◌, ◌<◌, ℕ, List, Some, Ok, map, option_map}
use Rattle.basil_types.specs.declared.party.Party.TheVariants.{Replica}
use Rattle.quorum_laws.specs.Numbers.{replicas}
use Rattle.replica_core.specs.Replicas.{empty_book}
use Rattle.cluster_run.specs.Events.{EventValue, happens}
use Rattle.cluster_run.specs.States.{Setup, Standing, State, start}
use Rattle.delivery_laws.specs.Deliveries.{after_taking, book_in, takes}

-- an event leaves each book as what is taken at it leaves it
abbrev pub BooksFollowDeliveries : Type 0
BooksFollowDeliveries =
    (s : Setup) (st after : State) (e : EventValue) → happens s e st ≡ Ok after → (shard index : ℕ) →
    book_in after shard index ≡ option_map (after_taking s (takes s st e) shard index) (book_in st shard index)

-- at the start each replica of the cluster has the empty book, with its pen
abbrev pub BooksBeginEmpty : Type 0
BooksBeginEmpty =
    (s : Setup) (shard index : ℕ) → shard < s.cluster.shards → index < replicas s.cluster.f →
    book_in (start s) shard index ≡ Some (empty_book (s.kit.pen (Replica shard index)))

-- where a replica stands
pub record Place : Type 0 where
  pub shard : ℕ
  pub index : ℕ

abbrev pub place_of : Standing → Place
place_of x = record { shard = x.shard; index = x.index }

abbrev pub places : State → List Place
places st = map place_of st.replicas

-- no event adds a replica, takes one away, or moves one
abbrev pub ReplicasStay : Type 0
ReplicasStay = (s : Setup) (st after : State) (e : EventValue) → happens s e st ≡ Ok after → places after ≡ places st
