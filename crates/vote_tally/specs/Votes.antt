-- Votes, and what is counted over a list of them.
use Rattle.std.specs.Prelude.{ℕ, ◌<◌, Bool, List, ◌&&◌, ◌==◌, nat_lt, count_by, All}
use Rattle.std.specs.List.{list_any, IsDistinct}
use Rattle.basil_types.specs.Setting.{Setting}
use Rattle.basil_types.specs.Decision.{is_commit, is_abort}
use Rattle.quorum_laws.specs.Numbers.{replicas}
use Rattle.vote_tally.specs.declared.votes.FirstVote.{FirstVote}
use Rattle.vote_tally.specs.declared.votes.Counts.{Counts}

-- whether a shard of the cluster has a replica of this number
abbrev pub is_replica : Setting → ℕ → Bool
is_replica c replica = nat_lt replica (replicas c.f)

-- whether a vote is of this replica
abbrev pub has_voted : List FirstVote → ℕ → Bool
has_voted votes replica = list_any (λ v. v.replica == replica) votes

-- the votes are of distinct replicas of a shard
pub record AreFirst (c : Setting) (votes : List FirstVote) : Type 0 where
  pub distinct : IsDistinct (λ v w. v.replica == w.replica) votes
  pub in_range : All (λ v. v.replica < replicas c.f) votes

abbrev pub commits_of : List FirstVote → ℕ
commits_of votes = count_by (λ v. is_commit v.vote) votes

abbrev pub aborts_of : List FirstVote → ℕ
aborts_of votes = count_by (λ v. is_abort v.vote) votes

-- whether some abort has a proof
abbrev pub has_proof : List FirstVote → Bool
has_proof votes = list_any (λ v. is_abort v.vote && v.proof) votes

abbrev pub counts_of : List FirstVote → Counts
counts_of votes = record { commits = commits_of votes; aborts = aborts_of votes; proven = has_proof votes }
