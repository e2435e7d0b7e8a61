use Rattle.std.proofs.Common.{◌≡◌}
use Rattle.replica_rows.proofs.tallies.class_of.Given as goal

abbrev pub invariant-loop-replica : goal.invariant-loop-replica
invariant-loop-replica l = l.tally.cluster ≡ l.initial.tally.cluster
