use Rattle.std.proofs.Common.{[], ◌≤◌}
use Rattle.basil_types.specs.Lists.{items_at}
use Rattle.basil_types.specs.Parsed.{read_at}
use Rattle.basil_types.specs.Transaction.{key_of_read}
use Rattle.basil_types.proofs.ListLaws.{GoesOn}
use Rattle.basil_types.proofs.transaction.lists.ReadsView.at.Given as goal

abbrev pub invariant-loop-i : goal.invariant-loop-i
invariant-loop-i l =
    record {
      items : GoesOn read_at key_of_read l.self.count l.i l.before l.rest
          (items_at read_at key_of_read l.self.count [] l.self.bytes.now);
      earlier : l.i ≤ l.place;
    }
