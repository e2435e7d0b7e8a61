-- What a node that is handed a frame comes to, under the room of a pool.
use Rattle.std.specs.Prelude.{◌≡◌, ◌≤◌, ◌&&◌, ⊤, Bool, true, false, List, length, map, nat_le, Result, Ok, Err}
use Rattle.basil_types.specs.declared.memory.NoMemory.{NoMemory}
use Rattle.basil_types.specs.declared.outbox.Outbox.{Outbox}
use Rattle.keyring.specs.declared.verifier.Verifier as verifiers
use Rattle.keyring.specs.declared.signer.Signer as signers
use Rattle.node_steps.specs.Holding.{Holds}
use Rattle.node_steps.specs.Envelopes.{EnvelopeValue}
use Rattle.node_steps.specs.Framed.{framed}
use Rattle.node_steps.specs.Pendings.{bytes_sent}
use Rattle.replica_core.specs.declared.refusal.Refusal.{Refusal}
use Rattle.replica_core.specs.Replicas.{Done}
use Rattle.cluster_run.specs.States.{Setup, Standing}
use Rattle.cluster_nodes.specs.declared.handled.Handled.{Handled}
use Rattle.cluster_nodes.specs.declared.handled.Handled.TheVariants.{Refused, Full, Sent}
use Rattle.message_pool.specs.declared.pool.Room.{Room}
use Rattle.cluster_nodes.specs.declared.standing.StandingReplica.{StandingReplica}
use Rattle.cluster_nodes.specs.Standings.{StandsAs}

-- all of these messages have room
abbrev pub fits : Room → List EnvelopeValue → Bool
fits room sent =
    nat_le (length (map framed sent)) room.messages && nat_le (bytes_sent (map framed sent)) room.bytes

-- what is sent has room
pub record HasRoom (room : Room) (out : Outbox) : Type 0 where
  pub messages : length out.messages.items ≤ room.messages
  pub bytes : bytes_sent out.messages.items ≤ room.bytes

abbrev pub IsWithin : {E : Type 0} → Room → Handled E → Type 0
IsWithin room (Refused e) = ⊤
IsWithin room Full = ⊤
IsWithin room (Sent out) = HasRoom room out

-- it is as answered: refused, or done where what is sent has room; else, and where memory is wanting, all is as it was
abbrev pub Takes : {V S : Type 0} {v : verifiers.Ghosts V} {g : signers.Ghosts S} →
    Setup → Standing → Room → Result Done Refusal → Result (Handled Refusal) NoMemory → StandingReplica V S v g → Type 0
Takes s x room answer (Ok (Refused refusal)) node = (answer ≡ Err refusal) × StandsAs s node x
Takes s x room answer (Ok Full) node =
    (d : Done) × (answer ≡ Ok d) × (fits room d.sent ≡ false) × StandsAs s node x
Takes s x room answer (Ok (Sent out)) node =
    (d : Done) × (answer ≡ Ok d) × (fits room d.sent ≡ true) × Holds out d.sent d.signed
    × StandsAs s node (record x { book = d.book })
Takes s x room answer (Err wanting) node = StandsAs s node x
