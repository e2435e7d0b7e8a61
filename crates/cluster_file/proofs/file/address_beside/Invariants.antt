use Rattle.std.proofs.Common.{◌≡◌, drop, map, string_bytes}
use Rattle.std.specs.List.{zip}
use Rattle.cluster_file.specs.Listing.{address_beside}
use Rattle.cluster_file.proofs.file.address_beside.Given as goal

abbrev pub invariant-loop-place : goal.invariant-loop-place
invariant-loop-place l =
    address_beside (zip l.publics (map string_bytes l.addresses)) l.party
    ≡ address_beside (zip (drop l.place l.publics) (map string_bytes (drop l.place l.addresses))) l.party
