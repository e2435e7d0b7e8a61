use Rattle.std.proofs.Common.{◌≡◌, ◌++◌, map}
use Rattle.std.specs.List.{range_with_len}
use Rattle.basil_types.specs.declared.party.Party.TheVariants.{Replica}
use Rattle.client_steps.proofs.address.add_shard.Given as goal

abbrev pub invariant-loop-index : goal.invariant-loop-index
invariant-loop-index l = l.parties.items ≡ l.initial.parties.items ++ map (λ r. Replica l.shard r) (range_with_len 0 l.index)
