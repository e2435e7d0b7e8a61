use Rattle.std.proofs.Common.{◌≡◌, drop, List}
use Rattle.std.specs.List.{list_any}
use Rattle.basil_types.specs.Shown.{transaction_of}
use Rattle.mv_store.specs.Held.{Held, NotedRead}
use Rattle.mv_store.specs.Store.{Stands}
use Rattle.mvtso_check.specs.Verdict.{is_noted_above}
use Rattle.mvtso_check.proofs.crossings.is_read_later.Given as goal

abbrev pub invariant-loop-place : goal.invariant-loop-place
invariant-loop-place l =
    (held : List Held) (noted : List NotedRead) → Stands l.store held noted →
    list_any (is_noted_above l.home noted (transaction_of l.t)) (transaction_of l.t).writes
    ≡ list_any (is_noted_above l.home noted (transaction_of l.t)) (drop l.place (transaction_of l.t).writes)
