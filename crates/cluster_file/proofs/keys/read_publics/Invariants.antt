use Rattle.cluster_file.specs.Faults.{public_of}
use Rattle.cluster_file.proofs.EachLaws.{Reads}
use Rattle.cluster_file.proofs.keys.read_publics.Given as goal

abbrev pub invariant-loop-seat : goal.invariant-loop-seat
invariant-loop-seat l = Reads public_of l.seats l.publics.items l.seat-index
