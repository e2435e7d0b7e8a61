use Rattle.std.proofs.Common.{true, false}
use Rattle.client_core.specs.Clients.{quiet}
use Rattle.cluster_nodes.proofs.Clients.{write_lacks}
use Rattle.cluster_nodes.proofs.calling.StandingClient.write.Goals as goal

pub returns-then-slots-slot : goal.returns-then-slots-slot
returns-then-slots-slot g c = λ s number client st. (
  quiet client,
  write_lacks client c.args.slot (record { key = c.args.key.now; value = c.args.value.now; deletes = false }) c.slots.result
      (c.slots.ensures.shown client st.shows) c.if-slots-slot.true,
  st,
)
