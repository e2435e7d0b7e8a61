use Rattle.std.proofs.Common.{◌≡◌, ◌++◌, ◌-◌, map}
use Rattle.std.specs.List.{range_with_len}
use Rattle.basil_types.specs.declared.party.Party.TheVariants.{Client}
use Rattle.keyring_lms.proofs.replay.push_clients.Given as goal

abbrev pub invariant-loop-number : goal.invariant-loop-number
invariant-loop-number l = l.parties.items ≡ l.initial.parties.items ++ map (λ number. Client number) (range_with_len 1 (l.number - 1))
