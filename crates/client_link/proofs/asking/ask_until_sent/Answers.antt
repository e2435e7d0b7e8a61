-- One more is asked at each turn, until the client sends something or nothing waits.
use Rattle.client_link.proofs.AskLaws.{asked_until_sent, asking_more, asking_none}
use Rattle.client_link.proofs.asking.ask_until_sent.Goals as goal

pub loop-errands-init : goal.loop-errands-init
loop-errands-init g c = asking_none _ _ _ _ _

pub loop-errands-preserved : goal.loop-errands-preserved
loop-errands-preserved g c =
    asking_more _ _ c.ask_next.new.client _ _ _ _ _ _ _ _ _ _ _ c.loop-errands.invariant c.if-sent.false c.in-Ok.ensures.own
    c.in-Ok.ensures.seat c.in-Ok.ensures.slots c.in-Ok.ensures.faults (λ u at. c.in-Ok.ensures.asked u at)

pub returns-then-sent-clause-asked : goal.returns-then-sent-clause-asked
returns-then-sent-clause-asked g c t at =
    asked_until_sent _ _ c.ask_next.new.client _ _ _ _ _ _ _ _ _ _ _ t c.loop-errands.invariant c.if-sent.true c.in-Ok.ensures.own
    c.in-Ok.ensures.seat (λ u at. c.in-Ok.ensures.asked u at) at
