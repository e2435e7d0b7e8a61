use Rattle.std.proofs.Common.{◌≡◌, map, take, string_bytes}
use Rattle.cluster_file.specs.Listing.{addresses_of}
use Rattle.cluster_file.proofs.judging.copy_addresses.Given as goal

abbrev pub invariant-loop-replica : goal.invariant-loop-replica
invariant-loop-replica l = map string_bytes l.addresses.items ≡ addresses_of (take l.replica-index l.replicas)
