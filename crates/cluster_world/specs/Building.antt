-- What a world begins with.
use Rattle.std.specs.Prelude.{◌++◌, [], ℕ, List, filter, map}
use Rattle.std.specs.List.{flat_map, range_with_len}
use Rattle.basil_types.specs.Limits.{most_clients}
use Rattle.basil_types.specs.declared.party.Party.{Party}
use Rattle.basil_types.specs.declared.party.Party.TheVariants.{Replica, Client}
use Rattle.basil_types.specs.Setting.{Setting}
use Rattle.client_core.specs.Clients.{ClientValue, empty_client}
use Rattle.keyring.specs.declared.verifier.Verifier as verifiers
use Rattle.keyring.specs.declared.signer.Signer as signers
use Rattle.cluster_nodes.specs.declared.calling.StandingClient.{StandingClient}
use Rattle.cluster_nodes.specs.declared.standing.StandingReplica.{StandingReplica}
use Rattle.cluster_run.specs.States.{KitValue, Setup, Standing, shard_standing}
use Rattle.faulty_parties.specs.declared.pens.Pens.{Pens}
use Rattle.faulty_parties.specs.Pens.{LieFor}
use Rattle.premise_watch.specs.Parties.{is_among}
use Rattle.quorum_laws.specs.Numbers.{replicas}
use Rattle.cluster_world.specs.declared.building.Beginning.{Beginning}
use Rattle.cluster_world.specs.Pairs.{Pairs}
use Rattle.cluster_world.specs.Shows.{IsCaller, IsReplica}

-- what is fixed in a run that begins so, with these faulty parties and this kit
abbrev pub setup_of : Beginning → (faulty : List Party) → KitValue → Setup
setup_of b faulty kit = record {
  cluster = b.cluster;
  faulty = faulty;
  clock = b.clock;
  messages = b.limits.messages;
  bytes = b.limits.bytes;
  kit = kit;
}

-- ---- nodes

-- the client of this number, before its first call
abbrev pub first_client : Setup → ℕ → ClientValue
first_client s number = empty_client (s.kit.pen (Client number))

-- so many clients, from client 1 on
abbrev pub first_clients : Setup → ℕ → List ClientValue
first_clients s count = map (first_client s) (range_with_len 1 count)

-- the replicas of so many shards, from shard 0 on
abbrev pub first_shards : Setup → ℕ → List Standing
first_shards s count = flat_map (shard_standing s) (range_with_len 0 count)

module _ {V S : Type 0} {v : verifiers.Ghosts V} {g : signers.Ghosts S} (s : Setup) where
  abbrev pub AreReplicas : List (StandingReplica V S v g) → List Standing → Type 0
  AreReplicas nodes standings = Pairs (IsReplica s) nodes standings

  -- behind the others, whatever they stand for, come these
  abbrev pub AddsReplicas : List Standing → (old new : List (StandingReplica V S v g)) → Type 0
  AddsReplicas more old new =
      (before : List Standing) → AreReplicas old before → AreReplicas new (before ++ more)

  abbrev pub AreCallers : List (StandingClient V S v g) → List ClientValue → Type 0
  AreCallers nodes clients = Pairs (IsCaller s) nodes clients

-- ---- the pens of the faulty parties

-- the replicas of a shard
abbrev pub parties_of_shard : Setting → (shard : ℕ) → List Party
parties_of_shard c shard = map (Replica shard) (range_with_len 0 (replicas c.f))

-- those of so many shards, from shard 0 on
abbrev pub parties_of_shards : Setting → (count : ℕ) → List Party
parties_of_shards c count = flat_map (parties_of_shard c) (range_with_len 0 count)

-- so many clients, from client 1 on
abbrev pub client_parties : (count : ℕ) → List Party
client_parties count = map Client (range_with_len 1 count)

-- all parties of a cluster
abbrev pub parties_of : Setting → List Party
parties_of c = parties_of_shards c c.shards ++ client_parties most_clients

module _ {S : Type 0} (g : signers.Ghosts S) (s : Setup) (faulty : List Party) where
  -- the pens are those of the faulty ones of these parties
  abbrev pub ArePensOf : List Party → Pens S → Type 0
  ArePensOf asked pens = LieFor g pens s (filter (is_among faulty) asked) []

  -- whoever was asked before, these are asked too
  abbrev pub AddsPens : List Party → (old new : Pens S) → Type 0
  AddsPens more old new = (before : List Party) → ArePensOf before old → ArePensOf (before ++ more) new
