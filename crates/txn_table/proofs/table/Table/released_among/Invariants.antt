use Rattle.std.proofs.Common.{◌≡◌, take}
use Rattle.std.specs.Prelude.{filter_map}
use Rattle.txn_table.specs.Released.{placed_vote}
use Rattle.txn_table.proofs.table.Table.released_among.Given as goal

abbrev pub invariant-loop-i : goal.invariant-loop-i
invariant-loop-i l = l.released.items ≡ filter_map (placed_vote l.home l.supposed l.self.entries) (take l.i l.places)
