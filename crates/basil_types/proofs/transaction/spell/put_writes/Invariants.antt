use Rattle.std.proofs.Common.{◌≡◌, ◌++◌, ◌∷◌, length, take, All}
use Rattle.std.specs.List.{flat_map}
use Rattle.basil_types.specs.Transaction.{write_bytes}
use Rattle.basil_types.specs.Built.{WriteInRange}
use Rattle.basil_types.proofs.transaction.spell.put_writes.Given as goal

abbrev pub invariant-loop-write : goal.invariant-loop-write
invariant-loop-write l = record {
  spelled : l.out.items ≡ l.fn.out.items ++ length l.writes ∷ flat_map (write_bytes l.format) (take l.write-index l.writes);
  in_range : All WriteInRange (take l.write-index l.writes);
}
