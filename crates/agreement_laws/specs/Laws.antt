use Rattle.std.specs.Prelude.{◌≡◌, ℕ, ◌<◌, Bool, true, false, List, Some}
use Rattle.std.specs.List.{Contains}
use Rattle.quorum_laws.specs.Numbers.{replicas, commit_tally}
use Rattle.agreement_laws.specs.Words.{Id, Decision, Commit, Vote}
use Rattle.agreement_laws.specs.Settings.{Setting, Sane}
use Rattle.agreement_laws.specs.Certificates.{Signed, Grows, Voted, IsElection, IsMajority}
use Rattle.agreement_laws.specs.Certificates.{Logged, CanCommit, FastAbort, LoggedAbort, CanAbort}
use Rattle.agreement_laws.specs.Replicas.{Act}
use Rattle.agreement_laws.specs.Runs.{State, signed_of, Event, happens, IsLawful}
use Rattle.agreement_laws.specs.Runs.{run, AreLawful, start, MayAnswer, answers}
use Rattle.agreement_laws.specs.Invariants.{Invariant}

-- What the laws say of a state.

-- what can be committed can have neither a fast nor a logged abort certificate, over all views
pub record Counting (c : Setting) (st : State) : Type 0 where
  pub no_fast_abort : (x : Id) → CanCommit c (signed_of st) x → FastAbort c (signed_of st) x → ⊥
  pub no_logged_abort : (x : Id) → CanCommit c (signed_of st) x → LoggedAbort c (signed_of st) x → ⊥

-- log certificates of all views name one decision
abbrev pub LockIn : Setting → State → Type 0
LockIn c st =
    (x : Id) (d e : Decision) (v w : ℕ) → Logged c (signed_of st) x d v → Logged c (signed_of st) x e w → d ≡ e

-- two that can both be committed do not conflict
abbrev pub Exclusion : Setting → State → Type 0
Exclusion c st =
    (x y : Id) (s : ℕ) → CanCommit c (signed_of st) x → CanCommit c (signed_of st) y → c.conflict x y s ≡ false

-- what a transaction that can be committed depends on can be committed
abbrev pub Dependency : Setting → State → Type 0
Dependency c st =
    (x y : Id) (s : ℕ) → CanCommit c (signed_of st) x → c.depends x y s ≡ true → CanCommit c (signed_of st) y

-- what a transaction that can be committed depends on by a key of a shard is committed at a correct replica there
abbrev pub DependencyThere : Setting → State → Type 0
DependencyThere c st =
    (x y : Id) (s : ℕ) → CanCommit c (signed_of st) x → c.depends x y s ≡ true →
    (r : ℕ) × (c.faulty s r ≡ false) × (((st.nodes s r).book y).outcome ≡ Some Commit)

-- what can be committed has a commit tally of each involved shard
abbrev pub CommitVotes : Setting → State → Type 0
CommitVotes c st =
    (x : Id) (s : ℕ) → CanCommit c (signed_of st) x → c.involved x s ≡ true →
    Voted c (signed_of st) x s Commit (commit_tally c.f)

-- each involved shard of what can be committed has a correct replica that signed a commit vote
abbrev pub Voters : Setting → State → Type 0
Voters c st =
    (x : Id) (s : ℕ) → CanCommit c (signed_of st) x → c.involved x s ≡ true →
    (r : ℕ) × (r < replicas c.f) × (c.faulty s r ≡ false) × Contains (signed_of st s r) (Vote s r x Commit)

-- a transaction of which an abort certificate was shown can have one
abbrev pub ShownArePossible : Setting → State → Type 0
ShownArePossible c st = (x : Id) → st.aborted x ≡ true → CanAbort c (signed_of st) x

-- what has had an abort certificate shown, or can have one of whatever kind, cannot be committed
pub record Agreement (c : Setting) (st : State) : Type 0 where
  pub none_shown : (x : Id) → CanCommit c (signed_of st) x → st.aborted x ≡ false
  pub none_possible : (x : Id) → CanCommit c (signed_of st) x → CanAbort c (signed_of st) x → ⊥

-- the words of an election elect one decision
abbrev pub OneElected : Type 0
OneElected =
    (f : ℕ) (who : ℕ → Bool) (names : ℕ → Decision) (d e : Decision) →
    IsElection f who →
    IsMajority f who names d → IsMajority f who names e →
    d ≡ e

-- what can have a certificate by some words can have one by others
pub record CertificatesStay (c : Setting) (p q : Signed) : Type 0 where
  pub commit : (x : Id) → CanCommit c p x → CanCommit c q x
  pub abort : (x : Id) → CanAbort c p x → CanAbort c q x

-- as more is signed
abbrev pub WithMoreWords : Type 0
WithMoreWords = (c : Setting) (p q : Signed) → Grows p q → CertificatesStay c p q

-- as more happens
abbrev pub WithMoreEvents : Type 0
WithMoreEvents =
    (c : Setting) (st : State) (es : List Event) → CertificatesStay c (signed_of st) (signed_of (run es st))

-- How they are said.

abbrev pub FromInvariant : (Setting → State → Type 0) → Type 0
FromInvariant Law = (c : Setting) → Sane c → (st : State) → Invariant c st → Law c st

abbrev pub InEveryRun : (Setting → State → Type 0) → Type 0
InEveryRun Law = (c : Setting) → Sane c → (es : List Event) → AreLawful c es start → Law c (run es start)

-- The invariant.

abbrev pub HoldsAtStart : Type 0
HoldsAtStart = (c : Setting) → Invariant c start

abbrev pub HoldsAfterEvent : Type 0
HoldsAfterEvent =
    (c : Setting) → Sane c → (st : State) (e : Event) → Invariant c st → IsLawful c st e → Invariant c (happens st e)

-- after what a correct replica does at one message
abbrev pub HoldsAfterAnswer : Type 0
HoldsAfterAnswer =
    (c : Setting) → Sane c → (st : State) (s r : ℕ) (acts : List (Id × Act)) → Invariant c st → c.faulty s r ≡ false →
    MayAnswer c (signed_of st) st.aborted s r (st.nodes s r) acts → Invariant c (answers st s r acts)
