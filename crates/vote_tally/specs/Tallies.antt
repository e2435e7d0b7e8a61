-- A tally as callers see it.
use Rattle.std.specs.Prelude.{ℕ, Bool, List, [], ◌∷◌, ◌++◌, ◌&&◌, not, if◌then◌else◌}
use Rattle.basil_types.specs.Setting.{Setting}
use Rattle.vote_tally.specs.declared.votes.FirstVote.{FirstVote}
use Rattle.vote_tally.specs.Votes.{is_replica, has_voted}

-- the first votes of a shard's replicas, in the order in which they came
pub record TallyValue : Type 0 where
  pub cluster : Setting
  pub votes : List FirstVote

-- whether a vote of this replica would be its first, and the replica is one of the cluster
abbrev pub is_first : TallyValue → ℕ → Bool
is_first t replica = is_replica t.cluster replica && not (has_voted t.votes replica)

-- the tally after a vote: it counts if it is the first one of a replica of the cluster
abbrev pub added : TallyValue → FirstVote → TallyValue
added t v = if is_first t v.replica then record t { votes = t.votes ++ v ∷ [] } else t
