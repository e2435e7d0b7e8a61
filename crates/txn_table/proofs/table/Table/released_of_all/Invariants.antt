use Rattle.std.proofs.Common.{◌≡◌, take, option_map}
use Rattle.std.specs.Prelude.{filter_map}
use Rattle.std.specs.List.{enumerate_from}
use Rattle.txn_table.specs.Released.{released_vote}
use Rattle.txn_table.proofs.table.Table.released_of_all.Given as goal

abbrev pub invariant-loop-at : goal.invariant-loop-at
invariant-loop-at l =
    l.released.items ≡ filter_map (λ x. option_map (λ vote. (x.0, vote)) (released_vote l.home l.supposed l.self.entries x.0 x.1))
    (enumerate_from 0 (take l.at l.self.entries))
