use Rattle.std.proofs.Common.{◌≡◌, take, filter}
use Rattle.basil_types.specs.Shown.{transaction_of}
use Rattle.txn_table.specs.Released.{is_dependency, depends, some_aborted, all_committed}
use Rattle.txn_table.proofs.table.Table.dependencies.Given as goal

abbrev pub invariant-loop-place : goal.invariant-loop-place
invariant-loop-place l =
    record {
      here : l.found.here ≡ depends l.supposed l.self.entries (filter (is_dependency l.home) (take l.place (transaction_of l.t).reads));
      aborted : l.found.aborted
          ≡ some_aborted l.supposed l.self.entries (filter (is_dependency l.home) (take l.place (transaction_of l.t).reads));
      committed : l.found.committed
          ≡ all_committed l.supposed l.self.entries (filter (is_dependency l.home) (take l.place (transaction_of l.t).reads));
    }
