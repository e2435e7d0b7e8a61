-- What a plan tells of the messages that it will send.
use Rattle.std.specs.Prelude.{◌≡◌, ℕ, List, length, map}
use Rattle.basil_types.specs.declared.outbox.Envelope.{Envelope}
use Rattle.fallback_leader.specs.declared.words.KeptWord.{KeptWord}
use Rattle.keyring.specs.Signing.{Signing}
use Rattle.node_steps.specs.Framed.{framed}
use Rattle.node_steps.specs.Pendings.{bytes_sent}
use Rattle.node_steps.specs.Pens.{GivesItsSize}
use Rattle.client_core.specs.Clients.{ClientDone, ClientValue}
use Rattle.client_core.specs.declared.held.Held.{Held}
use Rattle.client_core.specs.declared.work.ClientPlan.{ClientPlan}
use Rattle.client_core.specs.Works.{CanPerform, WillDo}
use Rattle.replica_core.specs.declared.parts.Parts.{Parts}
use Rattle.replica_core.specs.declared.plan.Plan.{Plan}
use Rattle.replica_core.specs.Nodes.{CanCommit, perform_plan}
use Rattle.replica_core.specs.Replicas.{BookValue}
use Rattle.replica_core.specs.Telling.{begun}

-- so many messages, and so many bytes of their frames together
pub record Counts (sent : List Envelope) (count size : ℕ) : Type 0 where
  pub messages : length sent ≡ count
  pub bytes : bytes_sent sent ≡ size

-- a replica's plan tells of the messages that it will send
abbrev pub PlansTell : Type 0
PlansTell =
    (signing : Signing) (kept : List KeptWord) (book : BookValue) (parts : Parts) (plan : Plan) →
    GivesItsSize signing book.pen → CanCommit signing.size book.pen.left parts plan →
    Counts (perform_plan signing kept (begun book) plan).sent plan.messages plan.bytes

-- so does a client's
abbrev pub ClientPlansTell : Type 0
ClientPlansTell =
    (signing : Signing) (held : Held) (client : ClientValue) (plan : ClientPlan) (d : ClientDone) →
    GivesItsSize signing client.pen → CanPerform signing.size client.pen.left held plan →
    WillDo signing held client plan d → Counts (map framed d.sent) plan.messages plan.bytes
