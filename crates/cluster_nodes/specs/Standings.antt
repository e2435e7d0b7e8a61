-- The nodes of a run, as code holds them.
use Rattle.std.specs.Prelude.{◌≡◌, ◌==◌, ◌&&◌, ℕ, Bool}
use Rattle.basil_types.specs.declared.party.Party.{Party}
use Rattle.basil_types.specs.declared.party.Party.TheVariants as parties
use Rattle.certificates.specs.Accepted.{Accepted}
use Rattle.keyring.specs.declared.verifier.Verifier as verifiers
use Rattle.keyring.specs.declared.signer.Signer as signers
use Rattle.keyring.specs.Signing.{Signing}
use Rattle.node_steps.specs.Pens.{PenValue, pen_value, GivesItsSize}
use Rattle.replica_core.specs.Nodes.{Shows}
use Rattle.replica_core.specs.Seats.{self_at}
use Rattle.client_core.specs.Clients.{ClientValue}
use Rattle.client_core.specs.Done as done
use Rattle.client_core.specs.Seats as clients
use Rattle.cluster_run.specs.Parts.{client_self, replica_self}
use Rattle.cluster_run.specs.States.{KitValue, Setup, Standing}
use Rattle.cluster_nodes.specs.declared.calling.StandingClient.{StandingClient}
use Rattle.cluster_nodes.specs.declared.standing.StandingReplica.{StandingReplica}

-- a keyring that accepts this, and a pen at this place that signs so, are those of a kit for a party, of one size
pub record IsOf (k : KitValue) (party : Party)
    (accepts : Accepted) (signing : Signing) (place : PenValue) : Type 0 where
  pub accepted : accepts ≡ k.accepts
  pub signed : signing ≡ k.signing party
  pub begins : place ≡ k.pen party
  pub sized : GivesItsSize signing place

-- a replica that stands so in a run: at its place of the cluster, with its clock, its book, and a pen of one size
pub record StandsAs {V S : Type 0} {v : verifiers.Ghosts V} {g : signers.Ghosts S} (s : Setup)
    (node : StandingReplica V S v g) (x : Standing) : Type 0 where
  pub own : self_at node.replica.seat (v.accepted node.replica.keys) (g.fixed node.replica.pen)
      ≡ replica_self s x.shard x.index
  pub moment : node.moment ≡ x.moment
  pub book : Shows node.replica.parts (pen_value (g.spent node.replica.pen) (g.left_of node.replica.pen)) x.book
  pub sized : GivesItsSize (s.kit.signing (parties.Replica x.shard x.index)) x.book.pen

-- whether it is the replica of this index of this shard
abbrev pub at_place : {V S : Type 0} {v : verifiers.Ghosts V} {g : signers.Ghosts S} → (shard index : ℕ) →
    StandingReplica V S v g → Bool
at_place shard index node = (node.shard == shard) && (node.index == index)

-- a client of this number that holds this, with a pen of one size
pub record HoldsAs {V S : Type 0} {v : verifiers.Ghosts V} {g : signers.Ghosts S} (s : Setup) (number : ℕ)
    (node : StandingClient V S v g) (c : ClientValue) : Type 0 where
  pub own : clients.self_at node.client.seat (v.accepted node.client.keys) (g.fixed node.client.pen)
      ≡ client_self s number
  pub shows : done.Shows node.client.held (pen_value (g.spent node.client.pen) (g.left_of node.client.pen)) c
  pub sized : GivesItsSize (s.kit.signing (parties.Client number)) c.pen
