-- It listens, and then serves; or nothing has changed.
use Rattle.std.proofs.Common.{Err, refl, ap, inl, inr}
use Rattle.std.proofs.lemmas.Result.{IfErr-weaker, IfOk-weaker}
use Rattle.node_link.specs.Connections.{listening}
use Rattle.node_link.proofs.ServeLaws.{finished_from, finished_whole, listening_at, outside, stopped_from, stopped_none}
use Rattle.node_link.proofs.turns.serve.Goals as goal

pub returns-in-Ok-clause-all : goal.returns-in-Ok-clause-all
returns-in-Ok-clause-all g c n h calm =
    let start = listening c.args.address.now n in
    let same = c.in-Ok.ensures.cause.kept in
    IfOk-weaker c.serve_each.result _ _
    (λ count f. finished_whole _ _ _ count _ _ _ start _ _ calm (finished_from _ _ _ count _ _ _ start _ _ _ same f))
    (c.serve_each.ensures.some start (listening_at _ _ _ _ _ _ n h c.in-Ok.ensures.listened.done))

pub returns-in-Ok-clause-some : goal.returns-in-Ok-clause-some
returns-in-Ok-clause-some g c n h =
    let start = listening c.args.address.now n in
    IfOk-weaker c.serve_each.result _ _
    (λ count f. finished_from _ _ _ count _ _ _ start _ _ _ c.in-Ok.ensures.cause.kept f)
    (c.serve_each.ensures.some start (listening_at _ _ _ _ _ _ n h c.in-Ok.ensures.listened.done))

pub returns-in-Ok-clause-stopped : goal.returns-in-Ok-clause-stopped
returns-in-Ok-clause-stopped g c n h =
    let start = listening c.args.address.now n in
    IfErr-weaker c.serve_each.result _ _
    (λ fault stop. (start, inr refl, stopped_from _ _ _ _ _ _ start _ _ _ fault c.in-Ok.ensures.cause.kept stop))
    (c.serve_each.ensures.stopped start (listening_at _ _ _ _ _ _ n h c.in-Ok.ensures.listened.done))

pub returns-in-Err-clause-stopped : goal.returns-in-Err-clause-stopped
returns-in-Err-clause-stopped g c n h = (
  n,
  inl refl,
  stopped_none _ _ _ _ _ _ _ _ n _ _ _ h c.in-Err.ensures.listened.as_before
      (outside _ _ _ _ c.from.ensures c.in-Err.ensures.cause.later
      (λ e. c.in-Err.ensures.cause.failed (ap (λ fail. Err fail) e))),
)
