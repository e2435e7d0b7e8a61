-- Which votes an outcome releases.
use Rattle.std.specs.Prelude.{ℕ, List, Bool, true, false, ◌&&◌, ◌==◌, Option, Some, None}
use Rattle.std.specs.Prelude.{option_map, is_none, filter, filter_map, slice_get, if◌then◌else◌}
use Rattle.std.specs.List.{list_any, list_all, enumerate_from}
use Rattle.std.specs.Option.{option_and_then}
use Rattle.basil_types.specs.declared.party.Decision.{Decision}
use Rattle.basil_types.specs.declared.party.Decision.TheVariants.{Commit, Abort}
use Rattle.basil_types.specs.declared.transaction.parts.ReadPart.{ReadPart}
use Rattle.basil_types.specs.Transaction.{TransactionValue}
use Rattle.txn_meta.specs.Places.{shard_of}
use Rattle.txn_table.specs.declared.released.Home.{Home}
use Rattle.txn_table.specs.declared.released.Supposed.{Supposed}
use Rattle.txn_table.specs.Entries.{EntryValue, is_waiting}
use Rattle.txn_table.specs.Tables.{place_of, decision_at}

-- a dependency on a key of the shard: a read of a version that was only prepared
abbrev pub is_dependency : Home → ReadPart → Bool
is_dependency home r = r.dependency && (shard_of home.cluster r.key == home.shard)

abbrev pub dependencies : Home → TransactionValue → List ReadPart
dependencies home t = filter (is_dependency home) t.reads

-- the outcome of a place, where one place is supposed to have this outcome
abbrev pub outcome_at : Supposed → List EntryValue → ℕ → Option Decision
outcome_at s entries place = if place == s.place then Some s.outcome else decision_at entries place

-- the place of the transaction whose version was read, if it is held
abbrev pub place_read : List EntryValue → ReadPart → Option ℕ
place_read entries r = place_of entries r.version.id

-- its outcome: none where it isn't held
abbrev pub outcome_read : Supposed → List EntryValue → ReadPart → Option Decision
outcome_read s entries r = option_and_then (outcome_at s entries) (place_read entries r)

abbrev pub is_committed : Option Decision → Bool
is_committed None = false
is_committed (Some Commit) = true
is_committed (Some Abort) = false

abbrev pub is_aborted : Option Decision → Bool
is_aborted None = false
is_aborted (Some Commit) = false
is_aborted (Some Abort) = true

abbrev pub is_place : ℕ → Option ℕ → Bool
is_place place None = false
is_place place (Some other) = other == place

-- whether some dependency is on the supposed place
abbrev pub depends : Supposed → List EntryValue → List ReadPart → Bool
depends s entries reads = list_any (λ r. is_place s.place (place_read entries r)) reads

abbrev pub some_aborted : Supposed → List EntryValue → List ReadPart → Bool
some_aborted s entries reads = list_any (λ r. is_aborted (outcome_read s entries r)) reads

abbrev pub all_committed : Supposed → List EntryValue → List ReadPart → Bool
all_committed s entries reads = list_all (λ r. is_committed (outcome_read s entries r)) reads

-- the vote that these dependencies allow, if they are on the supposed place
abbrev pub vote_after : Supposed → List EntryValue → List ReadPart → Option Decision
vote_after s entries reads =
    if depends s entries reads then
    (if some_aborted s entries reads then Some Abort else (if all_committed s entries reads then Some Commit else None))
    else None

-- the vote that is released at a place: of an entry that waits and has no outcome
abbrev pub released_vote : Home → Supposed → List EntryValue → ℕ → EntryValue → Option Decision
released_vote home s entries place e =
    if is_waiting e.vote && is_none (outcome_at s entries place)
    then vote_after s entries (dependencies home e.transaction)
    else None

-- the places whose votes are released, ascending, each with its vote
abbrev pub released : Home → Supposed → List EntryValue → List (ℕ × Decision)
released home s entries =
    filter_map (λ x. option_map (λ vote. (x.0, vote)) (released_vote home s entries x.0 x.1)) (enumerate_from 0 entries)

-- the vote that is released at a place, if that is held
abbrev pub vote_at : Home → Supposed → List EntryValue → ℕ → Option Decision
vote_at home s entries place = option_and_then (released_vote home s entries place) (slice_get entries place)

abbrev pub placed_vote : Home → Supposed → List EntryValue → ℕ → Option (ℕ × Decision)
placed_vote home s entries place = option_map (λ vote. (place, vote)) (vote_at home s entries place)

-- those of these places whose votes are released, each with its vote
abbrev pub released_among : Home → Supposed → List EntryValue → List ℕ → List (ℕ × Decision)
released_among home s entries places = filter_map (placed_vote home s entries) places
