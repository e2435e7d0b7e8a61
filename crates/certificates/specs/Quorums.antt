-- What certificates and tallies show, in signed words alone: quorums of replicas, each with an accepted signature.
use Rattle.std.specs.Prelude.{◌≡◌, ℕ, ◌<◌, List, true, ◌⊎◌}
use Rattle.basil_types.specs.declared.party.Party.TheVariants.{Replica}
use Rattle.basil_types.specs.declared.party.Decision.{Decision}
use Rattle.basil_types.specs.declared.party.Decision.TheVariants.{Commit, Abort}
use Rattle.basil_types.specs.Setting.{Setting}
use Rattle.basil_types.specs.Transaction.{TransactionValue, id}
use Rattle.basil_types.specs.Words.{SignedWords, VoteWords, LogReplyWords, words_of, AreWords}
use Rattle.frame_views.specs.Values as values
use Rattle.frame_views.specs.Values.{BodyValue}
use Rattle.quorum_laws.specs.Numbers.{replicas, fast_commit, commit_tally, abort_tally, fast_abort, log_quorum}
use Rattle.quorum_laws.specs.Sets.{Quorum}
use Rattle.txn_meta.specs.Conflicts.{conflict}
use Rattle.txn_meta.specs.Places.{involves, log_shard}
use Rattle.certificates.specs.Accepted.{Accepted}

-- some signature of a replica on these words is accepted
pub record Says (A : Accepted) (shard replica : ℕ) (words : SignedWords) : Type 0 where
  pub signature : List ℕ
  pub accepted : A (Replica shard replica) (words_of words) signature ≡ true
  pub sized : AreWords words

abbrev pub vote_words : TransactionValue → (shard replica : ℕ) → Decision → SignedWords
vote_words t shard replica d = VoteWords (record { shard = shard; replica = replica; id = id t; decision = d })

abbrev pub log_words : TransactionValue → (shard replica : ℕ) → Decision → (decided current : ℕ) → SignedWords
log_words t shard replica d decided current =
    LogReplyWords (record {
      shard = shard;
      replica = replica;
      id = id t;
      decision = d;
      decided = decided;
      current = current;
    })

-- votes of so many replicas of a shard
abbrev pub VoteQuorum : Accepted → Setting → TransactionValue → (shard : ℕ) → Decision → (needed : ℕ) → Type 0
VoteQuorum A c t shard d needed = Quorum (replicas c.f) needed (λ r. Says A shard r (vote_words t shard r d))

-- log replies of a log quorum of the log shard, with one decision and one decided view, in whatever views
abbrev pub LogReplyQuorum : Accepted → Setting → TransactionValue → Decision → (decided : ℕ) → Type 0
LogReplyQuorum A c t d decided =
    Quorum (replicas c.f) (log_quorum c.f)
    (λ r. (current : ℕ) × Says A (log_shard c t) r (log_words t (log_shard c t) r d decided current))

abbrev pub VotesInAll : Accepted → Setting → TransactionValue → (needed : ℕ) → Type 0
VotesInAll A c t needed = (shard : ℕ) → involves c t shard ≡ true → VoteQuorum A c t shard Commit needed

abbrev pub VotesInOne : Accepted → Setting → TransactionValue → (needed : ℕ) → Type 0
VotesInOne A c t needed = (shard : ℕ) × (involves c t shard ≡ true) × VoteQuorum A c t shard Abort needed

abbrev pub IsLogged : Accepted → Setting → TransactionValue → Decision → Type 0
IsLogged A c t d = (decided : ℕ) × LogReplyQuorum A c t d decided

-- every replica of each involved shard voted to commit, or a commit is logged
abbrev pub CanCommit : Accepted → Setting → TransactionValue → Type 0
CanCommit A c t = VotesInAll A c t (fast_commit c.f) ⊎ IsLogged A c t Commit

-- one vote to abort, and a rival that conflicts and can commit
pub record LosesTo (A : Accepted) (c : Setting) (t rival : TransactionValue) : Type 0 where
  pub shard : ℕ
  pub voter : ℕ
  pub involved : involves c t shard ≡ true
  pub in_range : voter < replicas c.f
  pub voted : Says A shard voter (vote_words t shard voter Abort)
  pub conflicts : conflict t rival ≡ true
  pub commits : CanCommit A c rival

abbrev pub LosesConflict : Accepted → Setting → TransactionValue → Type 0
LosesConflict A c t = (rival : TransactionValue) × LosesTo A c t rival

abbrev pub CanAbort : Accepted → Setting → TransactionValue → Type 0
CanAbort A c t = VotesInOne A c t (fast_abort c.f) ⊎ (IsLogged A c t Abort ⊎ LosesConflict A c t)

-- the votes that let a decision be logged
abbrev pub CanLog : Accepted → Setting → TransactionValue → Decision → Type 0
CanLog A c t Commit = VotesInAll A c t (commit_tally c.f)
CanLog A c t Abort = VotesInOne A c t (abort_tally c.f)

-- ---- what each kind of certificate shows; a conflict abort names the rival, which is the transaction that it carries

abbrev pub CommitShown : Accepted → Setting → TransactionValue → BodyValue → Type 0
CommitShown A c t (values.Commits (values.FastCommit tallies)) = VotesInAll A c t (fast_commit c.f)
CommitShown A c t (values.Commits (values.Logged logged)) = LogReplyQuorum A c t Commit logged.decided
CommitShown A c t (values.FastAbort tally) = ⊥
CommitShown A c t (values.ConflictAbort x) = ⊥

abbrev pub AbortShown : Accepted → Setting → TransactionValue → BodyValue → Type 0
AbortShown A c t (values.Commits (values.FastCommit tallies)) = ⊥
AbortShown A c t (values.Commits (values.Logged logged)) = LogReplyQuorum A c t Abort logged.decided
AbortShown A c t (values.FastAbort tally) = VotesInOne A c t (fast_abort c.f)
AbortShown A c t (values.ConflictAbort x) = LosesTo A c t x.other
