-- The client can't send so often: nothing waits at some turn.
use Rattle.std.proofs.Common.{◌≤◌, ◌+◌, ◌*◌, refl, arith}
use Rattle.client_link.proofs.AskLaws.{asked_all, turned_out, turning_more, turning_none}
use Rattle.client_link.proofs.asking.ask_all.Goals as goal

pub loop-turn-init : goal.loop-turn-init
loop-turn-init g c = turning_none _ _ _ _ _ _ refl

pub loop-turn-preserved : goal.loop-turn-preserved
loop-turn-preserved g c =
    turning_more _ _ c.ask_until_sent.new.client _ _ _ _ _ _ _ _ _ _ _ c.loop-turn.invariant c.in-Ok.ensures.own c.in-Ok.ensures.seat _
    c.if-not-sent.false c.in-Ok.ensures.slots c.in-Ok.ensures.faults (λ u at. c.in-Ok.ensures.asked u at)

pub returns-then-not-sent-clause-asked : goal.returns-then-not-sent-clause-asked
returns-then-not-sent-clause-asked g c t at =
    asked_all _ _ c.ask_until_sent.new.client _ _ _ _ _ _ _ _ _ _ _ c.loop-turn.invariant c.in-Ok.ensures.own c.in-Ok.ensures.seat _
    c.if-not-sent.true t (λ u at. c.in-Ok.ensures.asked u at) at

pub returns-clause-asked : goal.returns-clause-asked
returns-clause-asked g c t at =
    let out : 2 * c.slots.result + 1 ≤ c.loop-turn.turn = omega (arith, c.loop-turn-test.false) in
    turned_out _ _ _ _ _ _ _ _ _ _ c.slots.result t c.speaks_twice.ensures c.loop-turn.invariant out
    (λ w shows. c.slots.ensures.shown w shows) at
