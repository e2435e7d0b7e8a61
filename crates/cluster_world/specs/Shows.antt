-- Which states of a run a world shows.
use Rattle.std.specs.Prelude.{◌≡◌, ◌<◌, ℕ, suc, List, true}
use Rattle.basil_types.specs.declared.party.Party.{Party}
use Rattle.basil_types.specs.declared.party.Party.TheVariants.{Replica, Client}
use Rattle.basil_types.specs.Setting.{Setting}
use Rattle.client_core.specs.Clients.{ClientValue}
use Rattle.frame_views.specs.Fitting.{IsClient}
use Rattle.keyring.specs.declared.verifier.Verifier as verifiers
use Rattle.keyring.specs.declared.signer.Signer as signers
use Rattle.message_pool.specs.declared.pool.Room.{Room}
use Rattle.cluster_nodes.specs.declared.calling.StandingClient.{StandingClient}
use Rattle.cluster_nodes.specs.declared.standing.StandingReplica.{StandingReplica}
use Rattle.cluster_nodes.specs.Standings.{HoldsAs, StandsAs}
use Rattle.cluster_run.specs.States.{Setup, Standing, State}
use Rattle.faulty_parties.specs.Pens.{LiesAs}
use Rattle.premise_watch.specs.Parties.{is_among}
use Rattle.quorum_laws.specs.Numbers.{replicas}
use Rattle.run_sight.specs.Sights.{SightValue, Sees, sight_of}
use Rattle.cluster_world.specs.declared.engine.Engine.{Engine}
use Rattle.sight_laws.specs.Seen.{PoolIsSeen}
use Rattle.cluster_world.specs.Pairs.{Pairs}

-- a faulty party is one of the cluster
abbrev pub IsMember : Setting → Party → Type 0
IsMember c (Replica shard index) = (shard < c.shards) × (index < replicas c.f)
IsMember c (Client number) = IsClient number

-- all of them are of the cluster
abbrev pub AreMembers : Setting → List Party → Type 0
AreMembers c parties = (p : Party) → is_among parties p ≡ true → IsMember c p

-- the limits of the pool
abbrev pub limits_of : Setup → Room
limits_of s = record { messages = s.messages; bytes = s.bytes }

module _ {V S : Type 0} {v : verifiers.Ghosts V} {g : signers.Ghosts S} (s : Setup) where
  abbrev pub IsReplica : ℕ → StandingReplica V S v g → Standing → Type 0
  IsReplica place node x = StandsAs s node x

  -- clients are numbered from 1
  abbrev pub IsCaller : ℕ → StandingClient V S v g → ClientValue → Type 0
  IsCaller place node c = HoldsAs s (suc place) node c

  -- all but the messages of the pool is that of this state
  pub record Stands (core : Engine V S v g) (st : State) : Type 0 where
    pub members : AreMembers s.cluster s.faulty
    pub earlier : SightValue
    pub sight : Sees v core.sight s (sight_of st) earlier
    pub pens : LiesAs g core.pens s st.lied
    pub replicas : Pairs IsReplica core.replicas.items st.replicas
    pub clients : Pairs IsCaller core.clients.items st.clients
    pub begun : core.begun.items ≡ st.begun
    pub limits : core.pool.limits ≡ limits_of s
    pub refused : core.refused ≡ st.refused

  -- so are the messages
  pub record Shows (core : Engine V S v g) (st : State) : Type 0 where
    pub stands : Stands core st
    pub posts : core.pool.posts ≡ st.pool
    -- each of them was seen
    pub seen : PoolIsSeen s st
