-- What a file without a fault gives.
use Rattle.std.specs.Prelude.{◌≡◌, ℕ, List, [], map, Bool, true, false, is_some, Option, option_map, unwrap_or}
use Rattle.std.specs.List.{find, zip, list_all}
use Rattle.basil_types.specs.Setting.{Setting}
use Rattle.basil_types.specs.declared.party.Party.{Party}
use Rattle.basil_types.specs.declared.party.Party.TheVariants.{Replica, Client}
use Rattle.keyring_lms.specs.Keys.{is_same}
use Rattle.keyring_lms.specs.Replay.{is_party_of}
use Rattle.lms_sign.specs.declared.sets.LmsSet.{LmsSet}
use Rattle.cluster_file.specs.Values.{ReplicaValue, FileValue}
use Rattle.cluster_file.specs.Seats.{are_distinct}
use Rattle.cluster_file.specs.Faults.{setting_of, publics_of}

-- the cluster and the set; the parties with their public keys, the replicas first; the addresses of the replicas, in
-- the same order
pub record Listing : Type 0 where
  pub cluster : Setting
  pub set : LmsSet
  pub publics : List (Party × List ℕ)
  pub addresses : List (List ℕ)

abbrev pub listing_made : Setting → LmsSet → List (Party × List ℕ) → List (List ℕ) → Listing
listing_made cluster set publics addresses = record {
  cluster = cluster;
  set = set;
  publics = publics;
  addresses = addresses;
}

abbrev pub addresses_of : List ReplicaValue → List (List ℕ)
addresses_of replicas = map (λ (r : ReplicaValue). r.address) replicas

abbrev pub listing_of : FileValue → Listing
listing_of v = listing_made (setting_of v.head) v.head.set (unwrap_or (publics_of v) []) (addresses_of v.replicas)

abbrev pub parties_in : List (Party × List ℕ) → List Party
parties_in publics = map (λ (p : Party × List ℕ). p.0) publics

-- a party with its public key, beside an address
abbrev pub Place : Type 0
Place = (Party × List ℕ) × List ℕ

-- the address that stands beside a party
abbrev pub address_beside : List Place → Party → Option (List ℕ)
address_beside places party =
    option_map (λ (p : Place). p.1) (find (λ (p : Place). is_same p.0.0 party) places)

abbrev pub address_in : Listing → Party → Option (List ℕ)
address_in l party = address_beside (zip l.publics l.addresses) party

abbrev pub is_replica_of : Setting → Party → Bool
is_replica_of c (Replica shard index) = is_party_of c (Replica shard index)
is_replica_of c (Client number) = false

-- each party is one of the cluster's, none stands twice, and those with an address are the cluster's replicas
pub record IsListing (l : Listing) : Type 0 where
  pub known : list_all (is_party_of l.cluster) (parties_in l.publics) ≡ true
  pub once : are_distinct (parties_in l.publics) ≡ true
  pub addressed : (party : Party) → is_some (address_in l party) ≡ is_replica_of l.cluster party
