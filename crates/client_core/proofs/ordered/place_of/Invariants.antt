use Rattle.std.proofs.Common.{◌≡◌, ◌++◌, take, drop}
use Rattle.node_steps.specs.Lists.{by_key, put}
use Rattle.client_core.proofs.ordered.place_of.Given as goal

abbrev pub invariant-loop-i : goal.invariant-loop-i
invariant-loop-i g l =
    (item : g.row.T.Denot) → g.T.Keyed.key_of item ≡ l.key →
    put (by_key g.T.Keyed.key_of) item l.items ≡ take l.i l.items ++ put (by_key g.T.Keyed.key_of) item (drop l.i l.items)
