-- The accepted connection is served, to its end or until a call fails.
use Rattle.std.proofs.Common.{rules, ◌≡◌, Err, refl, ap, arith}
use Rattle.std.proofs.lemmas.Result.{IfErr-at_err}
use Rattle.basil_types.specs.declared.links.LinkFail.TheVariants.{Failed, NoMemory}
use Rattle.basil_types.specs.Causes.{Rose}
use Rattle.basil_types.specs.Links.{accepts, first_of}
use Rattle.node_link.specs.Connections.{served_of}
use Rattle.node_link.proofs.ServeLaws.{accepted_at, next_cut, next_part, next_whole, outside, stops_between, stops_within}
use Rattle.node_link.proofs.turns.serve_next.Goals as goal

pub returns-in-Ok-converse-clause-some : goal.returns-in-Ok-converse-clause-some
returns-in-Ok-converse-clause-some g c n h =
    let at = accepted_at _ _ _ _ _ n h c.in-Ok.ensures.accepted.done in
    next_whole _ _ _ _ _ _ _ n _ _
    (c.in-Ok-converse.ensures.all (accepts n.links) (first_of n.links.coming) (served_of n) refl at) h.frames
    (c.in-Ok-converse.ensures.counted (accepts n.links) (first_of n.links.coming) (served_of n) refl at)
    (omega (arith, c.in-Ok.ensures.cause.later, c.in-Ok-converse.ensures.cause.later))

pub returns-in-Err-Failed-clause-some : goal.returns-in-Err-Failed-clause-some
returns-in-Err-Failed-clause-some g c n h =
    let at = accepted_at _ _ _ _ _ n h c.in-Ok.ensures.accepted.done in
    let ended : c.converse.result ≡ Err Failed = search rules in
    let risen : Rose (g.L.Links.faults c.args.links.now) (g.L.Links.faults c.converse.new.links) =
    omega (arith, c.in-Ok.ensures.cause.kept, c.converse.ensures.cause.failed ended) in
    let served = next_cut _ _ _ _ _ _ n _ _
    (next_part _ _ _ _ _ _ _ _ n
    (IfErr-at_err _ ended (c.converse.ensures.some (accepts n.links) (first_of n.links.coming) (served_of n) refl at))
    h.frames c.converse.ensures.later)
    risen in
    search rules

pub returns-in-Err-Failed-clause-stopped : goal.returns-in-Err-Failed-clause-stopped
returns-in-Err-Failed-clause-stopped g c = search rules

pub returns-in-Err-NoMemory-clause-stopped : goal.returns-in-Err-NoMemory-clause-stopped
returns-in-Err-NoMemory-clause-stopped g c n h =
    let at = accepted_at _ _ _ _ _ n h c.in-Ok.ensures.accepted.done in
    let ended : c.converse.result ≡ Err NoMemory = search rules in
    stops_within _ _ _ _ _ _ n _ _
    (next_part _ _ _ _ _ _ _ _ n
    (IfErr-at_err _ ended (c.converse.ensures.some (accepts n.links) (first_of n.links.coming) (served_of n) refl at))
    h.frames c.converse.ensures.later)
    (omega (arith, c.in-Ok.ensures.cause.later, c.converse.ensures.cause.later))

pub returns-in-Err-clause-stopped : goal.returns-in-Err-clause-stopped
returns-in-Err-clause-stopped g c n h =
    stops_between _ _ _ _ _ _ _ n _ _ _ h c.in-Err.ensures.accepted.as_before
    (outside _ _ _ _ c.from.ensures c.in-Err.ensures.cause.later
    (λ e. c.in-Err.ensures.cause.failed (ap (λ fail. Err fail) e)))
