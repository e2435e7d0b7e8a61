use Rattle.std.proofs.Common.{◌≡◌, drop}
use Rattle.cluster_file.specs.Seats.{parties_of, are_distinct}
use Rattle.cluster_file.proofs.seats.are_distinct.Given as goal

abbrev pub invariant-loop-place : goal.invariant-loop-place
invariant-loop-place l = are_distinct (parties_of l.seats) ≡ are_distinct (parties_of (drop l.place l.seats))
