-- What a tally keeps beside the votes.
use Rattle.std.specs.Prelude.{◌≡◌, ℕ, ◌<◌, ◌≤◌, Bool, false, List, count_by, length, take, slice_index_or}
use Rattle.basil_types.specs.Setting.{Setting}
use Rattle.vote_tally.specs.declared.votes.FirstVote.{FirstVote}
use Rattle.vote_tally.specs.declared.votes.Counts.{Counts}
use Rattle.vote_tally.specs.Votes.{has_voted, counts_of, AreFirst}

pub record IsKept (c : Setting) (slots : List FirstVote) (len : ℕ) (voted : List Bool) (counts : Counts) : Type 0 where
  -- a shard has at most 31 replicas, and there are as many slots
  pub faulty : c.f ≤ 6
  pub few : len ≤ 31
  pub slots_are : length slots ≡ 31
  -- who has voted
  pub marks : (i : ℕ) → i < 31 → slice_index_or voted i false ≡ has_voted (take len slots) i
  pub voters : len ≡ count_by (λ m. m) voted
  pub first : AreFirst c (take len slots)
  pub counted : counts ≡ counts_of (take len slots)
