use Rattle.std.proofs.Common.{◌≡◌, Some, None, Option, sym, ap, subst}
use Rattle.frame_views.specs.Shown.{message_of}
use Rattle.node_steps.specs.Pens.{pen_value}
use Rattle.node_steps.specs.Refusing.{unless_refused}
use Rattle.replica_core.specs.declared.refusal.Refusal.{Refusal}
use Rattle.replica_core.specs.Answers.{answer_kind}
use Rattle.replica_core.specs.Leads.{kept_next}
use Rattle.replica_core.specs.Nodes.{book_shown}
use Rattle.replica_core.specs.Refusals.{refused}
use Rattle.basil_types.specs.Refusals.{Refuses}
use Rattle.replica_core.specs.Seats.{self_at}
use Rattle.replica_core.specs.Telling.{IsPlanned}
use Rattle.replica_core.specs.Works.{perform_work}
use Rattle.replica_core.proofs.answering.plan_message.Goals as goal

pub returns-in-Ok-clause-answer : goal.returns-in-Ok-clause-answer
returns-in-Ok-clause-answer g c book s =
    let sg = g.S.Signer.fixed c.args.pen.now in
    let pen = pen_value (g.S.Signer.spent c.args.pen.now) (g.S.Signer.left_of c.args.pen.now) in
    let accepts = g.V.Verifier.accepted c.args.keys.now in
    let me = self_at c.args.seat.now accepts sg in
    let m = message_of c.args.m.now in
    let b = book_shown book c.args.parts.now pen in
    let passed : refused me m ≡ None = subst (λ r. Refuses r (refused me m)) c.in-Ok.is (c.refuse.ensures.exact sg) in
    subst (λ (o : Option Refusal). IsPlanned (perform_work sg (kept_next c.plan_kind.new.parts.leading)) b c.plan_kind.result
    (unless_refused o (answer_kind me c.args.now c.args.from b m))) (sym passed)
    (c.plan_kind.ensures.answer accepts book s)

pub returns-in-Err-clause-answer : goal.returns-in-Err-clause-answer
returns-in-Err-clause-answer g c book s some =
    let sg = g.S.Signer.fixed c.args.pen.now in
    let pen = pen_value (g.S.Signer.spent c.args.pen.now) (g.S.Signer.left_of c.args.pen.now) in
    let accepts = g.V.Verifier.accepted c.args.keys.now in
    let me = self_at c.args.seat.now accepts sg in
    let m = message_of c.args.m.now in
    let b = book_shown book c.args.parts.now pen in
    let is : refused me m ≡ Some c.in-Err.refused = subst (λ r. Refuses r (refused me m)) c.in-Err.is (c.refuse.ensures.exact sg) in
    ap (λ (o : Option Refusal). unless_refused o (answer_kind me c.args.now c.args.from b m)) is
