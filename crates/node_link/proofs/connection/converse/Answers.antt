-- The connection is closed at its end, whichever that was.
use Rattle.std.proofs.lemmas.Result.{IfErr-weaker, on_ok_weaker}
use Rattle.node_link.proofs.ClosingLaws.{closed_all, closed_some}
use Rattle.node_link.proofs.connection.converse.Goals as goal

pub returns-clause-all : goal.returns-clause-all
returns-clause-all g c state bytes s rest start =
    on_ok_weaker c.talk-ended.result (λ h. closed_all _ _ _ _ _ state s _ c.close.ensures.closed h)
    (c.talk-ended.ensures.all state bytes s rest start)

pub returns-clause-some : goal.returns-clause-some
returns-clause-some g c state bytes s rest start =
    IfErr-weaker c.talk-ended.result _ _ (λ fail h. closed_some _ _ _ _ _ state s _ _ fail c.close.ensures.closed h)
    (c.talk-ended.ensures.some state bytes s rest start)
