use Rattle.std.proofs.Common.{sym, subst}
use Rattle.basil_types.specs.declared.outbox.Outbox.{Outbox}
use Rattle.node_steps.specs.Pendings.{Sends}
use Rattle.replica_core.specs.declared.logging.Said.{Said}
use Rattle.replica_core.specs.LogWorks.{said_messages, said_bytes}
use Rattle.replica_core.proofs.Releasing.{sends_one}
use Rattle.replica_core.proofs.logging.Said.say.Goals as goal

pub returns-in-Again-clause-sends : goal.returns-in-Again-clause-sends
returns-in-Again-clause-sends g c =
    let new : Outbox = record (c.args.out.now) { messages = c.push.new.self } in
    subst (λ (w : Said). Sends c.args.out.now new (said_messages w) (said_bytes (g.S.Signer.fixed c.args.pen.now).size w))
    (sym c.in-Again.is)
    (sends_one c.args.out.now new c.in-Again.sent c.push.ensures.items)
