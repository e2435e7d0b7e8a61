-- No connection at first, one more at each turn, and all in the end.
use Rattle.std.proofs.Common.{◌≡◌, arith}
use Rattle.node_link.proofs.ServeLaws.{serving_none, serving_more, stopped_later}
use Rattle.node_link.proofs.turns.serve_each.Goals as goal

pub loop-turn-init : goal.loop-turn-init
loop-turn-init g c = record { serving = serving_none _ _ _ _ _; turns = omega arith }

pub loop-turn-preserved : goal.loop-turn-preserved
loop-turn-preserved g c =
    record {
      serving = serving_more _ _ _ _ _ _ _ _ _ _ _ _ _ _ _ _ c.loop-turn.invariant.serving
          (record {
            risen = c.in-Ok.ensures.faults;
            few = c.in-Ok.ensures.few;
            self = c.in-Ok.ensures.own;
            served = λ n h. c.in-Ok.ensures.some n h;
          });
      turns = omega arith;
    }

pub returns-clause-some : goal.returns-clause-some
returns-clause-some g c n h =
    let e : c.loop-turn.turn ≡ c.args.connections = omega (arith, c.loop-turn.invariant.turns, c.loop-turn-test.false) in
    rw (← e) (c.loop-turn.invariant.serving.served n h)

pub returns-in-Err-clause-stopped : goal.returns-in-Err-clause-stopped
returns-in-Err-clause-stopped g c n h =
    stopped_later _ _ _ _ _ _ _ _ _ _ _ _ _ _ _ _ _ n _ c.loop-turn.invariant.serving h c.loop-turn-test.true
    (λ m at. c.in-Err.ensures.stopped m at)
