-- None is answered at first, one more at each turn, and all in the end; or a call fails at one.
use Rattle.node_link.proofs.AnsweringLaws.{at_err}
use Rattle.node_link.proofs.WaitingLaws.{answering_none, answering_more, answered_all, answering_fails}
use Rattle.node_link.proofs.connection.answer_waiting.Goals as goal

pub loop-envelope-init : goal.loop-envelope-init
loop-envelope-init g c = answering_none _ _ _ _ _ _

pub returns-in_err-answer_one-clause-some : goal.returns-in_err-answer_one-clause-some
returns-in_err-answer_one-clause-some g c state s start =
    at_err _ _ _ c.from_residual.ensures.1
    (answering_fails _ _ _ _ _ _ _ _ _ _ _ _ _ _ _ _ _ _ state s c.loop-envelope.invariant start c.in-Some.ensures.first
    c.in_err-answer_one.ensures.later (λ s at. c.in_err-answer_one.ensures.some state s at))

pub loop-envelope-preserved : goal.loop-envelope-preserved
loop-envelope-preserved g c =
    answering_more _ _ _ _ _ _ _ _ _ _ _ _ _ _ _ _ _ _ _ c.loop-envelope.invariant c.in-Some.ensures.first c.in-Some.ensures.rest
    c.in_ok-answer_one.ensures.counted c.in_ok-answer_one.ensures.own c.in_ok-answer_one.ensures.cause.kept
    (λ state s at. c.in_ok-answer_one.ensures.all state s at)

pub returns-clause-all : goal.returns-clause-all
returns-clause-all g c state s start =
    (answered_all _ _ _ _ _ _ _ _ _ _ _ _ c.loop-envelope.invariant c.in_default.ensures.first).at state s start
