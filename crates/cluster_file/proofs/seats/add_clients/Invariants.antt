use Rattle.keyring_lms.specs.Replay.{is_party_of}
use Rattle.cluster_file.specs.Seats.{client_seat}
use Rattle.cluster_file.proofs.SeatLaws.{Adds}
use Rattle.cluster_file.proofs.seats.add_clients.Given as goal

abbrev pub invariant-loop-client : goal.invariant-loop-client
invariant-loop-client l = Adds (is_party_of l.cluster) client_seat l.clients l.initial.seats.items l.seats.items l.client-index
