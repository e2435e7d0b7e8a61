-- Tallies that let a decision be logged (Basil, stages 1 and 2).
use Rattle.std.specs.Prelude.{◌≡◌, ℕ, ◌==◌, List, [], ◌∷◌, Bool, true}
use Rattle.std.specs.List.{list_any, All}
use Rattle.basil_types.specs.declared.party.Decision.{Decision}
use Rattle.basil_types.specs.declared.party.Decision.TheVariants.{Commit, Abort}
use Rattle.basil_types.specs.Setting.{Setting}
use Rattle.basil_types.specs.Transaction.{TransactionValue, id}
use Rattle.frame_views.specs.Signed.{tallies_signed}
use Rattle.frame_views.specs.Values.{TallyValue}
use Rattle.quorum_laws.specs.Numbers.{commit_tally, abort_tally}
use Rattle.txn_meta.specs.Places.{involves}
use Rattle.certificates.specs.Accepted.{Accepted, AllAccepted}
use Rattle.certificates.specs.Voters.{Voted}

abbrev pub lists : List TallyValue → ℕ → Bool
lists tallies shard = list_any (λ t. t.shard == shard) tallies

-- the listed shards are exactly the involved ones
abbrev pub ListsInvolved : Setting → TransactionValue → List TallyValue → Type 0
ListsInvolved c t tallies = (shard : ℕ) → lists tallies shard ≡ involves c t shard

-- commit votes of so many replicas of each involved shard, and of no other shard
pub record VotedInAll (A : Accepted) (c : Setting) (t : TransactionValue) (voted_on : List ℕ) (needed : ℕ)
    (tallies : List TallyValue) : Type 0 where
  pub shards : ListsInvolved c t tallies
  pub votes : All (Voted A c.f voted_on Commit needed) tallies

-- abort votes of so many replicas of one involved shard
pub record VotedInOne (A : Accepted) (c : Setting) (t : TransactionValue) (voted_on : List ℕ) (needed : ℕ)
    (tally : TallyValue) : Type 0 where
  pub shard : involves c t tally.shard ≡ true
  pub votes : Voted A c.f voted_on Abort needed tally

-- a commit tally of each involved shard
pub record CommitTallied (A : Accepted) (c : Setting) (t : TransactionValue) (tallies : List TallyValue) : Type 0 where
  pub voted : VotedInAll A c t (id t) (commit_tally c.f) tallies
  pub accepted : AllAccepted A (tallies_signed (id t) Commit tallies)

-- an abort tally of one involved shard
pub record AbortTallied (A : Accepted) (c : Setting) (t : TransactionValue) (tallies : List TallyValue) : Type 0 where
  pub tally : TallyValue
  pub alone : tallies ≡ tally ∷ []
  pub voted : VotedInOne A c t (id t) (abort_tally c.f) tally
  pub accepted : AllAccepted A (tallies_signed (id t) Abort tallies)

abbrev pub Tallied : Accepted → Setting → TransactionValue → Decision → List TallyValue → Type 0
Tallied A c t Commit tallies = CommitTallied A c t tallies
Tallied A c t Abort tallies = AbortTallied A c t tallies
