use Rattle.std.proofs.Common.{◌≡◌}
use Rattle.std.specs.Prelude.{filter_map}
use Rattle.std.specs.List.{range_with_len}
use Rattle.client_recover.specs.Replies.{latest_at}
use Rattle.client_recover.proofs.logs.Logs.latest_of_each.Given as goal

abbrev pub invariant-loop-replica : goal.invariant-loop-replica
invariant-loop-replica l = l.parts.items ≡ filter_map (latest_at l.self) (range_with_len 0 l.replica)
