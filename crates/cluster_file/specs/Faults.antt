-- Why a file is refused: the first reason that holds.
use Rattle.std.specs.Prelude.{ℕ, ◌^◌, ◌&&◌, ◌||◌, nat_lt, nat_le, List, Bool, not, is_none, if◌then◌else◌}
use Rattle.std.specs.Prelude.{Option, Some, None, option_map, Result, Ok, Err}
use Rattle.std.specs.List.{list_all}
use Rattle.std.specs.Result.{result_ok}
use Rattle.hex.specs.Hex.{decode_sized}
use Rattle.basil_types.specs.Cluster.{cluster_fault}
use Rattle.basil_types.specs.Setting.{Setting}
use Rattle.basil_types.specs.declared.party.Party.{Party}
use Rattle.cluster_file.specs.Values.{HeadValue, FileValue}
use Rattle.cluster_file.specs.Members.{is_digit}
use Rattle.cluster_file.specs.Grammar.{each}
use Rattle.cluster_file.specs.Seats.{SeatValue, seats_of, parties_of, are_known, are_distinct, are_whole}
use Rattle.cluster_file.specs.declared.fault.TheConstants.{REFUSED_CLUSTER, WRONG_PARTIES, BAD_KEY}

abbrev pub setting_of : HeadValue → Setting
setting_of h = record { f = h.f; shards = h.shards; reads = h.reads; delta = h.delta }

-- `f`, `shards` and `reads` are those of a cluster
abbrev pub is_cluster : HeadValue → Bool
is_cluster h = is_none (cluster_fault h.f h.shards h.reads)

-- the cluster of a file's numbers, or the first reason to refuse one of them
abbrev pub numbers_in : HeadValue → Result Setting ℕ
numbers_in h =
    if not (is_cluster h) then Err REFUSED_CLUSTER
    else if not (nat_lt h.delta (2 ^ 64)) then Err WRONG_PARTIES
    else Ok (setting_of h)

-- each party is one of the cluster's, none stands twice, and no replica is missing
abbrev pub are_seated : Setting → List SeatValue → Bool
are_seated c seats =
    are_known c seats && are_distinct (parties_of seats) && are_whole c (parties_of seats)

-- `delta` is in range, and so are the parties
abbrev pub is_placed : FileValue → Bool
is_placed v = nat_lt v.head.delta (2 ^ 64) && are_seated (setting_of v.head) (seats_of v)

abbrev pub is_lower_hex : ℕ → Bool
is_lower_hex b = is_digit b || nat_le 97 b && nat_le b 102

-- the 56 bytes that 112 lower-case hex digits write
abbrev pub key_in : List ℕ → Option (List ℕ)
key_in public = if list_all is_lower_hex public then result_ok (decode_sized public 56) else None

abbrev pub public_of : SeatValue → Option (Party × List ℕ)
public_of seat = option_map (λ key. (seat.party, key)) (key_in seat.public)

-- the parties with their public keys, where each is one
abbrev pub publics_of : FileValue → Option (List (Party × List ℕ))
publics_of v = each public_of (seats_of v)

abbrev pub fault_of : FileValue → Option ℕ
fault_of v =
    if not (is_cluster v.head) then Some REFUSED_CLUSTER
    else if not (is_placed v) then Some WRONG_PARTIES
    else if is_none (publics_of v) then Some BAD_KEY
    else None
