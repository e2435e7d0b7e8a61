use Rattle.keyring_lms.specs.Replay.{is_party_of}
use Rattle.cluster_file.specs.Seats.{replica_seat}
use Rattle.cluster_file.proofs.SeatLaws.{Adds}
use Rattle.cluster_file.proofs.seats.add_replicas.Given as goal

abbrev pub invariant-loop-replica : goal.invariant-loop-replica
invariant-loop-replica l = Adds (is_party_of l.cluster) replica_seat l.replicas l.initial.seats.items l.seats.items l.replica-index
