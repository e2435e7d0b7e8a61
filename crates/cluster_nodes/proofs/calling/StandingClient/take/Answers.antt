use Rattle.client_core.specs.Clients.{quiet}
use Rattle.cluster_nodes.proofs.Taking.{nothing_fits}
use Rattle.cluster_nodes.proofs.calling.StandingClient.take.Goals as goal

pub returns-then-lacks-clause-answer : goal.returns-then-lacks-clause-answer
returns-then-lacks-clause-answer g c = λ s number client st. (
  quiet client,
  c.lacks.ensures.lacking s number client st c.if-lacks.true,
  nothing_fits c.args.room,
  record { messages = c.outbox.ensures.messages; signed = c.outbox.ensures.signed },
  st,
)
