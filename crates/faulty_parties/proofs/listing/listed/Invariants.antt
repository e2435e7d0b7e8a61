use Rattle.std.proofs.Common.{◌≡◌, map}
use Rattle.std.specs.List.{range_with_len}
use Rattle.frame_values.specs.declared.owned.parts.ElectPart.{ElectPart}
use Rattle.frame_values.specs.Owned.{word_value}
use Rattle.node_steps.specs.Lists.{by_number}
use Rattle.faulty_parties.proofs.listing.listed.Given as goal

abbrev pub invariant-loop-replica : goal.invariant-loop-replica
invariant-loop-replica l =
    map word_value l.parts.items ≡ map word_value (by_number (λ (p : ElectPart). p.replica) (range_with_len 0 l.replica) l.words)
