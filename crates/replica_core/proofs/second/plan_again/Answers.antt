use Rattle.std.proofs.Common.{ℕ, List, ◌++◌, Ok, sym, ap, ◌∙◌}
use Rattle.basil_types.specs.Transaction.{long_text}
use Rattle.basil_types.specs.declared.outbox.Envelope.{Envelope}
use Rattle.replica_core.specs.declared.logging.LogWork.{LogWork}
use Rattle.replica_core.specs.declared.logging.Said.TheVariants.{Again}
use Rattle.replica_core.specs.LogWorks.{perform_log}
use Rattle.replica_core.specs.Telling.{begun}
use Rattle.replica_core.proofs.LogPlans.{again_planned}
use Rattle.replica_core.proofs.second.plan_again.Goals as goal

pub returns-clause-answer : goal.returns-clause-answer
returns-clause-answer c accepts signing book t entries =
    again_planned c.args.seat.now accepts signing book c.args.from t c.args.id.now c.args.cell c.args.askers.now
    c.args.arrives c.in_ok-askers.askers c.signatures_end_frames.ensures.log_replies
    entries c.in_ok-askers.ensures c.args.stored.now c.in_ok-frame-2.frame
    (c.in_ok-frame-2.ensures ∙ ap (λ (f : List ℕ). f ++ long_text c.args.stored.now) c.in_ok-frame.ensures)
    ∙ ap
    (λ (s : List ℕ). let e : Envelope = record { to = c.args.from; frame = c.in_ok-frame-2.frame } in let w : LogWork = record
    { arrives = c.args.arrives; id = c.args.id.now; cell = c.args.cell; askers = c.in_ok-askers.askers; said = Again s e } in Ok
    (perform_log signing (begun book) w)) (sym c.in_ok-reply.ensures)
