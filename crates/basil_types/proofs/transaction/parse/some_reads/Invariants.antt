use Rattle.std.proofs.Common.{[]}
use Rattle.basil_types.specs.Lists.{items_at}
use Rattle.basil_types.specs.Parsed.{read_at}
use Rattle.basil_types.specs.Transaction.{key_of_read}
use Rattle.basil_types.proofs.ListLaws.{GoesOn}
use Rattle.basil_types.proofs.transaction.parse.some_reads.Given as goal

abbrev pub invariant-loop : goal.invariant-loop
invariant-loop l = GoesOn read_at key_of_read l.count l.counter l.before l.rest (items_at read_at key_of_read l.count [] l.bytes)
