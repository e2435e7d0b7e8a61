use Rattle.std.proofs.Common.{◌≡◌, drop}
use Rattle.keyring_lms.specs.Replay.{is_listed}
use Rattle.cluster_file.specs.Seats.{parties_of}
use Rattle.cluster_file.proofs.seats.is_listed.Given as goal

abbrev pub invariant-loop-seat : goal.invariant-loop-seat
invariant-loop-seat l = is_listed (parties_of l.seats) l.party ≡ is_listed (parties_of (drop l.seat-index l.seats)) l.party
