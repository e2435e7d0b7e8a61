-- How many of the votes that count are for a decision, shard by shard, and how many are of each replica.
use Rattle.std.specs.Prelude.{◌≡◌, ℕ, ◌+◌, ◌*◌, ◌==◌, Bool, true, List, filter, length, nat_lt, slice_index_or}
use Rattle.std.specs.List.{list_all}
use Rattle.basil_types.specs.declared.party.Decision.{Decision}
use Rattle.client_recover.specs.declared.votes.CountedVote.{CountedVote}
use Rattle.client_recover.specs.Kept.{votes_so}

-- the count at a place; none where there is no place
abbrev pub count_at : List ℕ → (place : ℕ) → ℕ
count_at counts place = slice_index_or counts place 0

-- at each shard's place, how many of these votes are votes of it for this decision
abbrev pub CountsOf : Decision → List CountedVote → List ℕ → Type 0
CountsOf d votes counts = (shard : ℕ) → count_at counts shard ≡ length (votes_so votes d shard)

-- how many places a shard has among those of the replicas: no shard has so many of them
abbrev pub seats : ℕ
seats = 32

-- the place of a replica of a shard
abbrev pub place_of : (shard replica : ℕ) → ℕ
place_of shard replica = shard * seats + replica

abbrev pub is_at : (place : ℕ) → CountedVote → Bool
is_at place v = place_of v.shard v.replica == place

abbrev pub has_place : CountedVote → Bool
has_place v = nat_lt v.replica seats

-- at each replica's place, how many of these votes are its
pub record VotersOf (votes : List CountedVote) (counts : List ℕ) : Type 0 where
  pub counted : (place : ℕ) → count_at counts place ≡ length (filter (is_at place) votes)
  pub placed : list_all has_place votes ≡ true
