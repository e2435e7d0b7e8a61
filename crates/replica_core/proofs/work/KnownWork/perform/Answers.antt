use Rattle.std.proofs.Common.{sym, ap, subst, ◌∙◌}
use Rattle.basil_types.specs.declared.outbox.Outbox.{Outbox}
use Rattle.node_steps.specs.Pendings.{Sends}
use Rattle.replica_core.specs.declared.work.KnownWork.{KnownWork}
use Rattle.replica_core.specs.KnownWorks.{perform_known, message_count, byte_count}
use Rattle.replica_core.specs.Seats.{book_of}
use Rattle.replica_core.specs.Telling.{told_with}
use Rattle.replica_core.proofs.Releasing.{sends_one}
use Rattle.replica_core.proofs.work.KnownWork.perform.Goals as goal

pub returns-in-Vote-clause-told : goal.returns-in-Vote-clause-told
returns-in-Vote-clause-told g c book =
    c.give_vote.ensures.told book
    ∙ sym (ap
    (perform_known (g.S.Signer.fixed c.args.pen.now)
    (told_with (book_of book c.args.known.now (g.S.Signer.spent c.args.pen.now) (g.S.Signer.left_of c.args.pen.now)) c.args.out.now))
    c.in-Vote.is)

pub returns-in-Tell-clause-sends : goal.returns-in-Tell-clause-sends
returns-in-Tell-clause-sends g c =
    let new : Outbox = record (c.args.out.now) { messages = c.push.new.self } in
    subst (λ (w : KnownWork). Sends c.args.out.now new (message_count w) (byte_count (g.S.Signer.fixed c.args.pen.now).size w))
    (sym c.in-Tell.is)
    (sends_one c.args.out.now new c.in-Tell.envelope c.push.ensures.items)
