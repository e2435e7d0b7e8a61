use Rattle.std.proofs.Common.{[]}
use Rattle.basil_types.specs.Lists.{items_at}
use Rattle.basil_types.specs.Parsed.{write_at}
use Rattle.basil_types.specs.Transaction.{key_of_write}
use Rattle.basil_types.proofs.ListLaws.{GoesOn}
use Rattle.basil_types.proofs.transaction.parse.some_writes.Given as goal

abbrev pub invariant-loop : goal.invariant-loop
invariant-loop l =
    GoesOn (write_at l.format) key_of_write l.count l.counter l.before l.rest (items_at (write_at l.format) key_of_write l.count [] l.bytes)
