use Rattle.std.proofs.Common.{◌≡◌, drop, List}
use Rattle.std.specs.List.{list_any}
use Rattle.basil_types.specs.Shown.{transaction_of}
use Rattle.mv_store.specs.Held.{Held, NotedRead, hits}
use Rattle.mv_store.specs.Store.{Stands}
use Rattle.mv_store.specs.Hits.{joined}
use Rattle.txn_meta.specs.Conflicts.{crosses_in, is_crossed_in}
use Rattle.mvtso_check.proofs.crossings.between_reads.Given as goal

abbrev pub invariant-loop-place : goal.invariant-loop-place
invariant-loop-place l =
    (held : List Held) (noted : List NotedRead) → Stands l.store held noted →
    joined l.found (hits (λ h. list_any (crosses_in l.home.cluster l.home.shard h.transaction (transaction_of l.t))
    (drop l.place (transaction_of l.t).reads)) held)
    ≡ hits (λ h. is_crossed_in l.home.cluster l.home.shard (transaction_of l.t) h.transaction) held
