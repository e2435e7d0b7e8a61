-- What a plan of a client sends, counted.
use Rattle.std.proofs.Common.{◌+◌, List, [], ◌++◌, length, map, refl, sym, ap, ◌∙◌, arith}
use Rattle.std.proofs.lemmas.List.{append-nil}
use Rattle.basil_types.specs.declared.outbox.Envelope.{Envelope}
use Rattle.basil_types.specs.declared.outbox.Outbox.{Outbox}
use Rattle.keyring.specs.Signing.{Signing}
use Rattle.node_steps.specs.Pens.{GivesItsSize}
use Rattle.node_steps.specs.Framed.{framed}
use Rattle.node_steps.specs.Pendings.{bytes_sent}
use Rattle.client_core.specs.Clients.{ClientDone, ClientValue}
use Rattle.client_core.specs.declared.held.Held.{Held}
use Rattle.client_core.specs.declared.work.ClientPlan.{ClientPlan}
use Rattle.client_core.specs.declared.work.Work.{Work}
use Rattle.client_core.specs.declared.work.Work.TheVariants.{Nothing, Ask, Pursue, Start, Hold, Reply, Take}
use Rattle.client_core.specs.Works.{CanPerform, CanWork, WillDo, pending_bytes, pending_count, sealed_by}
use Rattle.cluster_nodes.specs.Sizes.{Counts}
use Rattle.cluster_nodes.proofs.Telling.{counts_sealed, gives_now}

counts_all : (sent : List Envelope) → Counts sent (length sent) (bytes_sent sent)
counts_all sent = record { messages = refl; bytes = refl }

-- what is sent with no signature
counts_alone : (sent : List Envelope) → Counts (sent ++ []) (length sent + 0) (bytes_sent sent + 0)
counts_alone sent =
    record {
      messages = ap length (append-nil sent) ∙ omega arith;
      bytes = ap bytes_sent (append-nil sent) ∙ omega arith;
    }

module _ (signing : Signing) (held : Held) (client : ClientValue) (out : Outbox) (gives : GivesItsSize signing client.pen) where
  work_counts : (w : Work) → CanWork signing.size client.pen.left held out w →
      Counts (out.messages.items ++ sealed_by signing client.pen w) (length out.messages.items + pending_count w)
      (bytes_sent out.messages.items + pending_bytes signing.size w)
  work_counts Nothing can = counts_alone out.messages.items
  work_counts (Ask slot asked) can = counts_alone out.messages.items
  work_counts (Pursue slot formed pending) can =
      counts_sealed out.messages.items _ _ signing.size _ pending (gives_now signing client.pen pending.words gives can.2.left)
      (counts_all out.messages.items)
  work_counts (Start slot) can = counts_alone out.messages.items
  work_counts (Hold recovered) can = counts_alone out.messages.items
  work_counts (Reply slot read reply) can = counts_alone out.messages.items
  work_counts (Take slot starts) can = counts_alone out.messages.items

pub ask_counts : (signing : Signing) (held : Held) (client : ClientValue) (plan : ClientPlan) (d : ClientDone) →
    GivesItsSize signing client.pen → CanPerform signing.size client.pen.left held plan → WillDo signing held client plan d →
    Counts (map framed d.sent) plan.messages plan.bytes
ask_counts signing held client plan d gives can will =
    let c = work_counts signing held client plan.out gives plan.work can.work in
    record {
      messages = sym (ap length will.messages) ∙ c.messages ∙ sym can.counts.messages;
      bytes = sym (ap bytes_sent will.messages) ∙ c.bytes ∙ sym can.counts.bytes;
    }
