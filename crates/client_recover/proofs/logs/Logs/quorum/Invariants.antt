use Rattle.std.proofs.Common.{◌≡◌, take}
use Rattle.std.specs.Prelude.{filter_map}
use Rattle.std.specs.List.{range_with_len}
use Rattle.client_recover.specs.Replies.{earliest_at}
use Rattle.client_recover.proofs.logs.Logs.quorum.Given as goal

abbrev pub invariant-loop-replica : goal.invariant-loop-replica
invariant-loop-replica l =
    l.parts.items ≡ take l.needed (filter_map (earliest_at l.self l.decision l.decided) (range_with_len 0 l.replica))
