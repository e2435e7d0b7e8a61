use Rattle.std.specs.Prelude.{◌≡◌, ℕ, ◌<◌, ◌≤◌, Bool, true, false, ◌⊎◌, List, Option, Some, None}
use Rattle.std.specs.List.{Contains}
use Rattle.quorum_laws.specs.Numbers.{replicas, commit_tally}
use Rattle.quorum_laws.specs.Sets.{Quorum}
use Rattle.agreement_laws.specs.Words.{Id, Decision, Commit, Abort, Word, Vote, LogReply, Election}
use Rattle.agreement_laws.specs.Settings.{Setting}
use Rattle.agreement_laws.specs.Certificates.{Signed, Tallied, Elected, CanCommit, FastAbort, LoggedAbort}
use Rattle.agreement_laws.specs.Replicas.{Cast, LogCell, Book, is_standing}
use Rattle.agreement_laws.specs.Runs.{Node, State, signed_of}

-- the votes and outcomes of a correct replica
pub record VotesHold (c : Setting) (signed : Signed) (aborted : Id → Bool) (s r : ℕ) (own : List Word) (book : Book)
    : Type 0 where
  -- a signed vote is the vote that the book has
  pub said : (x : Id) (d : Decision) → Contains own (Vote s r x d) → (book x).vote ≡ Cast d
  -- of two that conflict on a key of the shard and both stand, one has an abort outcome
  pub apart : (x y : Id) → c.conflict x y s ≡ true → is_standing (book x).vote ≡ true →
      is_standing (book y).vote ≡ true → ((book x).outcome ≡ Some Abort) ⊎ ((book y).outcome ≡ Some Abort)
  -- an outcome had its certificate
  pub ended_abort : (x : Id) → (book x).outcome ≡ Some Abort → aborted x ≡ true
  pub ended_commit : (x : Id) → (book x).outcome ≡ Some Commit → CanCommit c signed x
  -- where it voted commit, what the transaction depends on is committed here
  pub dependencies : (x y : Id) → Contains own (Vote s r x Commit) → c.depends x y s ≡ true →
      (book y).outcome ≡ Some Commit

abbrev pub IsUnder : Option LogCell → Decision → (view : ℕ) → Type 0
IsUnder None d v = ⊥
IsUnder (Some k) d v = (v < k.decided) ⊎ ((v ≡ k.decided) × (d ≡ k.decision))

abbrev pub IsReached : Option LogCell → (view : ℕ) → Type 0
IsReached None w = ⊥
IsReached (Some k) w = w ≤ k.current

abbrev pub IsBacked : (shard replica : ℕ) → List Word → Id → Option LogCell → Type 0
IsBacked s r own x None = Unit {0}
IsBacked s r own x (Some k) =
    (k.decided ≤ k.current) × (current : ℕ) × Contains own (LogReply s r x k.decision k.decided current)

-- the log replies and election words of a correct replica on one transaction
pub record LogHolds (c : Setting) (signed : Signed) (s r : ℕ) (own : List Word) (x : Id) (cell : Option LogCell)
    : Type 0 where
  -- each reply is the cell's, or was decided in a lower view; the cell's own was signed; each view of an election was
  -- reached
  pub under : (d : Decision) (v a : ℕ) → Contains own (LogReply s r x d v a) → IsUnder cell d v
  pub backed : IsBacked s r own x cell
  pub reached : (d : Decision) (w : ℕ) → Contains own (Election s r x d w) → IsReached cell w
  -- one decision for each decided view
  pub one_decision : (d e : Decision) (v a b : ℕ) → Contains own (LogReply s r x d v a) →
      Contains own (LogReply s r x e v b) → d ≡ e
  -- in view 0 it came from tallies, in a later view from an election
  pub first : (d : Decision) (a : ℕ) → Contains own (LogReply s r x d 0 a) → Tallied c signed x d
  pub later : (d : Decision) (v a : ℕ) → Contains own (LogReply s r x d v a) → 0 < v → Elected c signed x d v
  -- an election word for w names a decision logged below w, and none logged between
  pub named : (d : Decision) (w : ℕ) → Contains own (Election s r x d w) →
      (v a : ℕ) × (v < w) × Contains own (LogReply s r x d v a)
  pub latest : (e : Decision) (w : ℕ) (d : Decision) (v a : ℕ) → Contains own (Election s r x e w) →
      Contains own (LogReply s r x d v a) → v < w →
      (u b : ℕ) × (v ≤ u) × (u < w) × Contains own (LogReply s r x e u b)

pub record InOrder (c : Setting) (signed : Signed) (aborted : Id → Bool) (s r : ℕ) (p : Node) : Type 0 where
  pub votes : VotesHold c signed aborted s r p.own p.book
  pub logs : (x : Id) → LogHolds c signed s r p.own x (p.book x).cell

-- the replica is faulty, or it voted commit on the rival and not on x
abbrev pub Bars : Setting → (x rival : Id) (shard replica : ℕ) → List Word → Type 0
Bars c x y s r own = (c.faulty s r ≡ true) ⊎ (Contains own (Vote s r y Commit) × (Contains own (Vote s r x Commit) → ⊥))

-- a transaction that conflicts on a key of a shard has a commit certificate, and a commit tally's worth of
-- replicas of that shard bars x
pub record IsBlocked (c : Setting) (signed : Signed) (x : Id) : Type 0 where
  pub rival : Id
  pub shard : ℕ
  pub conflicts : c.conflict x rival shard ≡ true
  pub commits : CanCommit c signed rival
  pub barred : Quorum (replicas c.f) (commit_tally c.f) (λ r. Bars c x rival shard r (signed shard r))

-- correct replicas are in order, and what has had an abort certificate shown has a fast or a logged one, or is blocked
pub record Invariant (c : Setting) (st : State) : Type 0 where
  pub in_order : (s r : ℕ) → c.faulty s r ≡ false → InOrder c (signed_of st) st.aborted s r (st.nodes s r)
  pub causes : (x : Id) → st.aborted x ≡ true →
      (FastAbort c (signed_of st) x ⊎ LoggedAbort c (signed_of st) x) ⊎ IsBlocked c (signed_of st) x
