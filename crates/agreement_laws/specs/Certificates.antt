use Rattle.std.specs.Prelude.{◌≡◌, ℕ, ◌<◌, ◌≤◌, Bool, true, ◌&&◌, ◌⊎◌, List}
use Rattle.std.specs.List.{Contains}
use Rattle.quorum_laws.specs.Numbers.{replicas, fast_commit, commit_tally}
use Rattle.quorum_laws.specs.Numbers.{abort_tally, fast_abort, log_quorum, majority}
use Rattle.quorum_laws.specs.Sets.{size, Quorum}
use Rattle.agreement_laws.specs.Words.{Id, Decision, Commit, Abort, same_decision}
use Rattle.agreement_laws.specs.Words.{Word, Vote, LogReply, Election, Proposal}
use Rattle.agreement_laws.specs.Settings.{Setting}

-- the words that each replica of each shard has signed
abbrev pub Signed : Type 0
Signed = (shard replica : ℕ) → List Word

-- each has signed no fewer
abbrev pub Grows : Signed → Signed → Type 0
Grows p q = (s r : ℕ) (w : Word) → Contains (p s r) w → Contains (q s r) w

-- a signature of that replica on the word may be shown: it is faulty, or it signed the word
abbrev pub Says : Setting → Signed → (shard replica : ℕ) → Word → Type 0
Says c signed s r w = (c.faulty s r ≡ true) ⊎ Contains (signed s r) w

-- votes of k replicas of a shard
abbrev pub Voted : Setting → Signed → (x : Id) (shard : ℕ) → Decision → (k : ℕ) → Type 0
Voted c signed x s d k = Quorum (replicas c.f) k (λ r. Says c signed s r (Vote s r x d))

-- the votes that let a decision be logged: a commit tally of each involved shard, or an abort tally of one
abbrev pub Tallied : Setting → Signed → Id → Decision → Type 0
Tallied c signed x Commit = (s : ℕ) → c.involved x s ≡ true → Voted c signed x s Commit (commit_tally c.f)
Tallied c signed x Abort = (s : ℕ) × (c.involved x s ≡ true) × Voted c signed x s Abort (abort_tally c.f)

-- a log quorum of replies with one decision and one decided view, whatever views their replicas are in
abbrev pub Logged : Setting → Signed → Id → Decision → (view : ℕ) → Type 0
Logged c signed x d v =
    Quorum (replicas c.f) (log_quorum c.f)
    (λ r. (current : ℕ) × Says c signed (c.log_shard x) r (LogReply (c.log_shard x) r x d v current))

-- exactly a log quorum of replicas
abbrev pub IsElection : (f : ℕ) → (ℕ → Bool) → Type 0
IsElection f who = size who (replicas f) ≡ log_quorum f

-- a majority of them names the decision
abbrev pub IsMajority : (f : ℕ) → (ℕ → Bool) → (ℕ → Decision) → Decision → Type 0
IsMajority f who names d = majority f ≤ size (λ r. who r && same_decision (names r) d) (replicas f)

-- the election words for one view of exactly a log quorum, of which a majority names the decision
pub record Elected (c : Setting) (signed : Signed) (x : Id) (d : Decision) (view : ℕ) : Type 0 where
  pub who : ℕ → Bool
  pub names : ℕ → Decision
  pub exact : IsElection c.f who
  pub most : IsMajority c.f who names d
  pub each : (r : ℕ) → r < replicas c.f → who r ≡ true →
      Says c signed (c.log_shard x) r (Election (c.log_shard x) r x (names r) view)

-- the proposal of the view's leader
abbrev pub Proposed : Setting → Signed → Id → Decision → (view : ℕ) → Type 0
Proposed c signed x d v = Says c signed (c.log_shard x) (c.leader x v) (Proposal (c.log_shard x) (c.leader x v) x d v)

-- A certificate is a set of signatures that may be shown. These are its kinds.

abbrev pub FastCommit : Setting → Signed → Id → Type 0
FastCommit c signed x = (s : ℕ) → c.involved x s ≡ true → Voted c signed x s Commit (fast_commit c.f)

abbrev pub LoggedCommit : Setting → Signed → Id → Type 0
LoggedCommit c signed x = (view : ℕ) × Logged c signed x Commit view

abbrev pub CanCommit : Setting → Signed → Id → Type 0
CanCommit c signed x = FastCommit c signed x ⊎ LoggedCommit c signed x

abbrev pub FastAbort : Setting → Signed → Id → Type 0
FastAbort c signed x = (s : ℕ) × (c.involved x s ≡ true) × Voted c signed x s Abort (fast_abort c.f)

abbrev pub LoggedAbort : Setting → Signed → Id → Type 0
LoggedAbort c signed x = (view : ℕ) × Logged c signed x Abort view

-- one abort vote, and a commit certificate of a transaction that conflicts
pub record ConflictAbort (c : Setting) (signed : Signed) (x : Id) : Type 0 where
  pub voter_shard : ℕ
  pub voter : ℕ
  pub of_involved : c.involved x voter_shard ≡ true
  pub in_range : voter < replicas c.f
  pub voted : Says c signed voter_shard voter (Vote voter_shard voter x Abort)
  pub rival : Id
  pub shard : ℕ
  pub conflicts : c.conflict x rival shard ≡ true
  pub commits : CanCommit c signed rival

-- an abort certificate of whatever kind
abbrev pub CanAbort : Setting → Signed → Id → Type 0
CanAbort c signed x = FastAbort c signed x ⊎ (LoggedAbort c signed x ⊎ ConflictAbort c signed x)
