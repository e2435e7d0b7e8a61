use Rattle.std.proofs.Common.{[], ◌≤◌}
use Rattle.basil_types.specs.Lists.{items_at}
use Rattle.basil_types.specs.Parsed.{write_at}
use Rattle.basil_types.specs.Transaction.{key_of_write}
use Rattle.basil_types.proofs.ListLaws.{GoesOn}
use Rattle.basil_types.proofs.transaction.lists.WritesView.at.Given as goal

abbrev pub invariant-loop-i : goal.invariant-loop-i
invariant-loop-i l =
    record {
      items : GoesOn (write_at l.self.format) key_of_write l.self.count l.i l.before l.rest
          (items_at (write_at l.self.format) key_of_write l.self.count [] l.self.bytes.now);
      earlier : l.i ≤ l.place;
    }
