-- The parties of a file, each beside the text of its public key, in the file's order.
use Rattle.std.specs.Prelude.{ℕ, zero, suc, List, [], ◌∷◌, ◌++◌, map, Bool, true, not, ◌&&◌}
use Rattle.std.specs.Prelude.{if◌then◌else◌, Option, Some, None}
use Rattle.std.specs.List.{list_all}
use Rattle.basil_types.specs.Setting.{Setting}
use Rattle.basil_types.specs.declared.party.Party.{Party}
use Rattle.basil_types.specs.declared.party.Party.TheVariants.{Replica, Client}
use Rattle.keyring_lms.specs.Replay.{is_listed, is_party_of}
use Rattle.quorum_laws.specs.Numbers as numbers
use Rattle.cluster_file.specs.Values.{ReplicaValue, ClientValue, FileValue}

pub record SeatValue : Type 0 where
  pub party : Party
  pub public : List ℕ

abbrev pub seat_made : Party → List ℕ → SeatValue
seat_made party public = record { party = party; public = public }

abbrev pub replica_seat : ReplicaValue → SeatValue
replica_seat r = seat_made (Replica r.shard r.index) r.public

abbrev pub client_seat : ClientValue → SeatValue
client_seat c = seat_made (Client c.number) c.public

-- the replicas, and then the clients
abbrev pub seats_of : FileValue → List SeatValue
seats_of v = map replica_seat v.replicas ++ map client_seat v.clients

abbrev pub parties_of : List SeatValue → List Party
parties_of seats = map (λ (seat : SeatValue). seat.party) seats

-- each party is one of the cluster's
abbrev pub are_known : Setting → List SeatValue → Bool
are_known c seats = list_all (is_party_of c) (parties_of seats)

-- a seat, if its party is one of the cluster's
abbrev pub known_seat : Setting → SeatValue → Option SeatValue
known_seat c seat = if is_party_of c seat.party then Some seat else None

-- no party stands twice
abbrev pub are_distinct : List Party → Bool
are_distinct [] = true
are_distinct (p ∷ ps) = not (is_listed ps p) && are_distinct ps

-- each number below this one passes
abbrev pub all_below : (ℕ → Bool) → ℕ → Bool
all_below p zero = true
all_below p (suc n) = all_below p n && p n

-- every replica of a shard, and of every shard, stands there
abbrev pub is_whole_shard : Setting → List Party → ℕ → Bool
is_whole_shard c ps shard = all_below (λ index. is_listed ps (Replica shard index)) (numbers.replicas c.f)

abbrev pub are_whole : Setting → List Party → Bool
are_whole c ps = all_below (is_whole_shard c ps) c.shards
