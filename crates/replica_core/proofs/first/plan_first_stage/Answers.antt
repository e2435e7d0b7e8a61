use Rattle.std.proofs.Common.{sym, ap, subst, ◌∙◌}
use Rattle.std.specs.Prelude.{slice_get}
use Rattle.std.specs.Option.{option_and_then}
use Rattle.basil_types.specs.Shown.{transaction_of}
use Rattle.node_steps.specs.Pens.{pen_value}
use Rattle.txn_table.specs.Tables.{place_of}
use Rattle.replica_core.specs.FirstStage.{answer_known, first_vote}
use Rattle.replica_core.specs.KnownWorks.{perform_known}
use Rattle.replica_core.specs.Seats.{self_at, book_with}
use Rattle.replica_core.specs.Telling.{IsPlanned}
use Rattle.replica_core.proofs.Places.{known_new}
use Rattle.replica_core.proofs.first.plan_first_stage.Goals as goal

pub plan_first_vote-requires : goal.plan_first_vote-requires
plan_first_vote-requires g c x h =
    let es = c.args.known.now.table.entries in
    let named = c.id-id.ensures in
    let none = sym (ap (place_of es) named) ∙ sym c.place_of.ensures.place ∙ c.in-None.is in
    let z = sym (ap (option_and_then (slice_get es)) none) ∙ h in absurd cc

pub returns-in-None-clause-answer : goal.returns-in-None-clause-answer
returns-in-None-clause-answer g c accepts book s =
    let es = c.args.known.now.table.entries in
    let t = transaction_of c.args.t in
    let named = c.id-id.ensures in
    let none = sym (ap (place_of es) named) ∙ sym c.place_of.ensures.place ∙ c.in-None.is in
    let sg = g.S.Signer.fixed c.args.pen.now in
    let b = book_with book es (pen_value (g.S.Signer.spent c.args.pen.now) (g.S.Signer.left_of c.args.pen.now)) in
    let me = self_at c.args.seat.now accepts sg in
    let equal = ap (answer_known me c.args.now c.args.from b t) (ap (option_and_then (slice_get es)) none)
    ∙ ap (first_vote me c.args.now c.args.from b) (sym (known_new es t none)) in
    subst (IsPlanned (perform_known sg) b c.plan_first_vote.result) (sym equal) (c.plan_first_vote.ensures.answer accepts book s)
