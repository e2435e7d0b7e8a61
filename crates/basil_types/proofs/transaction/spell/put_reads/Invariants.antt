use Rattle.std.proofs.Common.{◌≡◌, ◌++◌, ◌∷◌, length, take, All}
use Rattle.std.specs.List.{flat_map}
use Rattle.basil_types.specs.Transaction.{read_bytes}
use Rattle.basil_types.specs.Built.{ReadInRange}
use Rattle.basil_types.proofs.transaction.spell.put_reads.Given as goal

abbrev pub invariant-loop-read : goal.invariant-loop-read
invariant-loop-read l = record {
  spelled : l.out.items ≡ l.fn.out.items ++ length l.reads ∷ flat_map read_bytes (take l.read-index l.reads);
  in_range : All ReadInRange (take l.read-index l.reads);
}
