use Rattle.std.proofs.Common.{◌≡◌, drop, List}
use Rattle.std.specs.List.{list_any}
use Rattle.basil_types.specs.Shown.{transaction_of}
use Rattle.mv_store.specs.Held.{Held, NotedRead, hits}
use Rattle.mv_store.specs.Store.{Stands}
use Rattle.mv_store.specs.Hits.{joined}
use Rattle.mvtso_check.specs.Crossings.{is_write_under, writes_under}
use Rattle.mvtso_check.proofs.crossings.across_writes.Given as goal

abbrev pub invariant-loop-place : goal.invariant-loop-place
invariant-loop-place l =
    (held : List Held) (noted : List NotedRead) → Stands l.store held noted →
    joined l.found
    (hits (λ h. list_any (is_write_under l.home (transaction_of l.t) h.transaction) (drop l.place (transaction_of l.t).writes)) held)
    ≡ hits (λ h. writes_under l.home (transaction_of l.t) h.transaction) held
