use Rattle.std.proofs.Common.{sym, ap, subst, ◌∙◌}
use Rattle.basil_types.specs.Shown.{transaction_of}
use Rattle.mvtso_check.specs.declared.verdict.Verdict.{Verdict}
use Rattle.node_steps.specs.Pens.{pen_value}
use Rattle.txn_table.specs.Entries.{is_voted}
use Rattle.replica_core.specs.FirstStage.{by_verdict}
use Rattle.replica_core.specs.Known.{known_of}
use Rattle.replica_core.specs.KnownWorks.{perform_known}
use Rattle.replica_core.specs.Seats.{self_at, book_with}
use Rattle.replica_core.specs.Telling.{IsPlanned}
use Rattle.replica_core.proofs.first.plan_first_vote.Goals as goal

pub plan_wait-requires : goal.plan_wait-requires
plan_wait-requires g c e h = (ap is_voted (c.requires e h).0, (c.requires e h).1)

pub returns-in-Commit-clause-answer : goal.returns-in-Commit-clause-answer
returns-in-Commit-clause-answer g c accepts book s =
    let es = c.args.known.now.table.entries in
    let b = book_with book es (pen_value (g.S.Signer.spent c.args.pen.now) (g.S.Signer.left_of c.args.pen.now)) in
    let me = self_at c.args.seat.now accepts (g.S.Signer.fixed c.args.pen.now) in
    subst (λ (v : Verdict). IsPlanned (perform_known (g.S.Signer.fixed c.args.pen.now)) b c.plan_vote.result
    (by_verdict me c.args.from b (known_of es (transaction_of c.args.t)) v))
    (sym (sym (c.verdict_on.ensures.verdict book.noted s) ∙ c.in-Commit.is)) (c.plan_vote.ensures.answer accepts book s)

pub returns-in-Abort-clause-answer : goal.returns-in-Abort-clause-answer
returns-in-Abort-clause-answer g c accepts book s =
    let es = c.args.known.now.table.entries in
    let b = book_with book es (pen_value (g.S.Signer.spent c.args.pen.now) (g.S.Signer.left_of c.args.pen.now)) in
    let me = self_at c.args.seat.now accepts (g.S.Signer.fixed c.args.pen.now) in
    subst (λ (v : Verdict). IsPlanned (perform_known (g.S.Signer.fixed c.args.pen.now)) b c.plan_vote-in-Abort.result
    (by_verdict me c.args.from b (known_of es (transaction_of c.args.t)) v))
    (sym (sym (c.verdict_on.ensures.verdict book.noted s) ∙ c.in-Abort.is)) (c.plan_vote-in-Abort.ensures.answer accepts book s)

pub returns-in-AbortBy-clause-answer : goal.returns-in-AbortBy-clause-answer
returns-in-AbortBy-clause-answer g c accepts book s =
    let es = c.args.known.now.table.entries in
    let b = book_with book es (pen_value (g.S.Signer.spent c.args.pen.now) (g.S.Signer.left_of c.args.pen.now)) in
    let me = self_at c.args.seat.now accepts (g.S.Signer.fixed c.args.pen.now) in
    subst (λ (v : Verdict). IsPlanned (perform_known (g.S.Signer.fixed c.args.pen.now)) b c.plan_vote-in-AbortBy.result
    (by_verdict me c.args.from b (known_of es (transaction_of c.args.t)) v))
    (sym (sym (c.verdict_on.ensures.verdict book.noted s) ∙ c.in-AbortBy.is)) (c.plan_vote-in-AbortBy.ensures.answer accepts book s)

pub returns-in-Wait-clause-answer : goal.returns-in-Wait-clause-answer
returns-in-Wait-clause-answer g c accepts book s =
    let es = c.args.known.now.table.entries in
    let b = book_with book es (pen_value (g.S.Signer.spent c.args.pen.now) (g.S.Signer.left_of c.args.pen.now)) in
    let me = self_at c.args.seat.now accepts (g.S.Signer.fixed c.args.pen.now) in
    subst (λ (v : Verdict). IsPlanned (perform_known (g.S.Signer.fixed c.args.pen.now)) b c.plan_wait.result
    (by_verdict me c.args.from b (known_of es (transaction_of c.args.t)) v))
    (sym (sym (c.verdict_on.ensures.verdict book.noted s) ∙ c.in-Wait.is)) (c.plan_wait.ensures.answer accepts book s)
