use Rattle.std.proofs.Common.{Option, sym, ap, subst, ◌∙◌}
use Rattle.std.specs.Prelude.{option_map}
use Rattle.basil_types.specs.Built.{or_else}
use Rattle.basil_types.specs.Shown.{transaction_of}
use Rattle.decision_log.specs.Cells.{adopt_fault}
use Rattle.decision_log.specs.declared.cell.LogCell.{LogCell}
use Rattle.frame_views.specs.Shown.{decide_of}
use Rattle.node_steps.specs.Pens.{pen_value}
use Rattle.node_steps.specs.Refusing.{unless}
use Rattle.replica_core.specs.declared.refusal.Refusal.{Refusal}
use Rattle.replica_core.specs.Elections.{adopt_done, bad_election, not_adopted, fault_of}
use Rattle.replica_core.specs.Known.{known_of}
use Rattle.replica_core.specs.LogWorks.{perform_log}
use Rattle.replica_core.specs.Seats.{self_at, book_of}
use Rattle.replica_core.specs.Signing.{exhausted}
use Rattle.replica_core.specs.Telling.{IsPlanned}
use Rattle.replica_core.proofs.Adopting.{refused_first, refused_last}
use Rattle.replica_core.proofs.election.plan_adopt.Goals as goal

pub returns-in-Ok-clause-answer : goal.returns-in-Ok-clause-answer
returns-in-Ok-clause-answer g c accepts book l celled asks =
    let spent = g.S.Signer.spent c.args.pen.now in
    let left = g.S.Signer.left_of c.args.pen.now in
    let signing = g.S.Signer.fixed c.args.pen.now in
    let me = self_at c.args.seat.now accepts signing in
    let m = decide_of c.args.m.now in
    let b = book_of book c.args.known.now spent left in
    let bad = ap (λ (k : Option LogCell). or_else (option_map fault_of (adopt_fault k m.view)) (bad_election me m)) celled in
    subst
    (λ (o : Option Refusal). IsPlanned (perform_log signing) b c.plan_new.result
    (unless o (adopt_done me b (known_of c.args.known.now.table.entries (transaction_of c.args.m.now.transaction)) m l)))
    (sym
    (refused_last (not_adopted l m.view) (bad_election me m) (exhausted 1 (pen_value spent left))
    (bad ∙ c.in-Ok.ensures.adopted accepts signing)))
    (c.plan_new.ensures.answer accepts book m l (sym c.in-Ok.ensures.cell) asks)

pub returns-in-Err-clause-answer : goal.returns-in-Err-clause-answer
returns-in-Err-clause-answer g c accepts book l celled asks other =
    let spent = g.S.Signer.spent c.args.pen.now in
    let left = g.S.Signer.left_of c.args.pen.now in
    let signing = g.S.Signer.fixed c.args.pen.now in
    let me = self_at c.args.seat.now accepts signing in
    let m = decide_of c.args.m.now in
    let b = book_of book c.args.known.now spent left in
    let bad = ap (λ (k : Option LogCell). or_else (option_map fault_of (adopt_fault k m.view)) (bad_election me m)) celled in
    refused_first (not_adopted l m.view) (bad_election me m) (exhausted 1 (pen_value spent left)) c.in-Err.refused
    (adopt_done me b (known_of c.args.known.now.table.entries (transaction_of c.args.m.now.transaction)) m l)
    (bad ∙ c.in-Err.ensures.refused accepts signing)
