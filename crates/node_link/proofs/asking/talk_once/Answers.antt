-- The connection is closed, whatever came of it.
use Rattle.std.proofs.Common.{rules, arith}
use Rattle.basil_types.specs.Causes.{Rose}
use Rattle.node_link.proofs.AnsweringLaws.{of_err}
use Rattle.node_link.proofs.AskingLaws.{talked_cut, talked_whole}
use Rattle.node_link.proofs.asking.talk_once.Goals as goal

pub returns-in-Ok-clause-talked : goal.returns-in-Ok-clause-talked
returns-in-Ok-clause-talked g c s bytes left =
    talked_whole _ _ _ s _ _ _ _ _ (c.in-Ok.ensures.answer s bytes left) c.close.ensures.closed
    (omega (arith, c.in-Ok.ensures.cause.later, c.close.ensures.kept))

pub returns-in-Err-Failed-clause-talked : goal.returns-in-Err-Failed-clause-talked
returns-in-Err-Failed-clause-talked g c s bytes left =
    let risen : Rose (g.L.Links.faults c.args.links.now) (g.L.Links.faults c.exchange-answered.new.links) = search rules in
    talked_cut _ _ _ s _ _ _ _ _ (of_err _ _ c.in-Err-Failed.is (c.exchange-answered.ensures.cut s bytes left)) c.close.ensures.closed
    c.new.ensures.items (omega (arith, risen, c.close.ensures.kept))
