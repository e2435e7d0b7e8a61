use Rattle.std.proofs.Common.{ℕ, List, Option, Ok, sym, subst}
use Rattle.node_steps.specs.Pens.{pen_value}
use Rattle.node_steps.specs.Refusing.{unless}
use Rattle.replica_core.specs.LogFronts.{logged_at, pen_at}
use Rattle.replica_core.specs.Logs.{logged_as}
use Rattle.replica_core.specs.LogWorks.{perform_log}
use Rattle.replica_core.specs.Seats.{self_at}
use Rattle.replica_core.specs.SecondStage.{reply_by, reply_again, reply_anew}
use Rattle.replica_core.specs.Signing.{exhausted}
use Rattle.replica_core.specs.Telling.{IsPlanned}
use Rattle.replica_core.proofs.LogPlans.{says_of_all}
use Rattle.replica_core.proofs.second.plan_reply.Goals as goal

pub returns-in-Some-clause-answer : goal.returns-in-Some-clause-answer
returns-in-Some-clause-answer g c accepts book t entries =
    let signing = g.S.Signer.fixed c.args.pen.now in
    let me = self_at c.args.seat.now accepts signing in
    let b = pen_at book (g.S.Signer.spent c.args.pen.now) (g.S.Signer.left_of c.args.pen.now) in
    let log = c.args.log.now in
    let r = c.plan_again.result in
    subst (λ (o : Option (List ℕ)). IsPlanned (perform_log signing) b r (reply_by me c.args.from b t (logged_as c.args.id.now log) o))
    (sym c.in-Some.is)
    (subst
    (λ (s : List ℕ). IsPlanned (perform_log signing) b r
    (Ok (reply_again me c.args.from b t (logged_at c.args.id.now log.cell log.askers.items) s))) c.as_slice.ensures
    (subst
    (λ (ns : List ℕ). IsPlanned (perform_log signing) b r
    (Ok
    (reply_again me c.args.from b t
    (logged_at c.args.id.now log.cell ns) c.as_slice.result.now))) c.as_slice-askers.ensures.value
    (c.plan_again.ensures.answer accepts signing b t entries)))

pub returns-in-Some-clause-says : goal.returns-in-Some-clause-says
returns-in-Some-clause-says g c = says_of_all (g.S.Signer.fixed c.args.pen.now).size
    (g.S.Signer.left_of c.args.pen.now) c.plan_again.result c.plan_again.ensures.says

pub returns-in-None-clause-answer : goal.returns-in-None-clause-answer
returns-in-None-clause-answer g c accepts book t entries =
    let signing = g.S.Signer.fixed c.args.pen.now in
    let me = self_at c.args.seat.now accepts signing in
    let spent = g.S.Signer.spent c.args.pen.now in
    let left = g.S.Signer.left_of c.args.pen.now in
    let b = pen_at book spent left in
    let log = c.args.log.now in
    let r = c.plan_anew.result in
    subst (λ (o : Option (List ℕ)). IsPlanned (perform_log signing) b r (reply_by me c.args.from b t (logged_as c.args.id.now log) o))
    (sym c.in-None.is)
    (subst
    (λ (ns : List ℕ). IsPlanned (perform_log signing) b r
    (unless (exhausted 1 (pen_value spent left))
    (reply_anew me c.args.from b t (logged_at c.args.id.now log.cell ns)))) c.as_slice-askers.ensures.value
    (c.plan_anew.ensures.answer accepts book t entries))
