use Rattle.std.proofs.Common.{◌≡◌, drop}
use Rattle.std.specs.Prelude.{◌&&◌}
use Rattle.std.specs.List.{list_any}
use Rattle.basil_types.specs.Shown.{transaction_of}
use Rattle.txn_table.specs.Released.{is_dependency}
use Rattle.mvtso_check.specs.Book.{is_open}
use Rattle.mvtso_check.proofs.dependencies.has_open.Given as goal

abbrev pub invariant-loop-place : goal.invariant-loop-place
invariant-loop-place l =
    list_any (λ r. is_dependency l.home r && is_open l.table.entries r) (transaction_of l.t).reads
    ≡ list_any (λ r. is_dependency l.home r && is_open l.table.entries r) (drop l.place (transaction_of l.t).reads)
