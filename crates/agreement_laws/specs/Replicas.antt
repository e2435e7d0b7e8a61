use Rattle.std.specs.Prelude.{◌≡◌, ℕ, ◌<◌, ◌≤◌, Bool, true, false, ◌⊎◌, List, [], ◌∷◌, Option, Some, None}
use Rattle.agreement_laws.specs.Words.{Id, Decision, Commit, Abort, Word, Vote, LogReply, Election, Proposal}
use Rattle.agreement_laws.specs.Settings.{Setting}
use Rattle.agreement_laws.specs.Certificates.{Signed, Tallied, Elected, Proposed, CanCommit}

-- What a correct replica keeps of a transaction, and what it may do to it.

-- its vote: none yet, put off until dependencies end, or signed
pub data VoteState : Type 0 where
  Unvoted : VoteState
  Waiting : VoteState
  Cast : (d : Decision) → VoteState

-- the logged decision, the view in which it was decided, and the view that the replica is in
pub record LogCell : Type 0 where
  pub decision : Decision
  pub decided : ℕ
  pub current : ℕ

pub record Slot : Type 0 where
  pub vote : VoteState
  pub outcome : Option Decision
  pub cell : Option LogCell

abbrev pub Book : Type 0
Book = Id → Slot

-- it waits or has voted commit
abbrev pub is_standing : VoteState → Bool
is_standing Unvoted = false
is_standing Waiting = true
is_standing (Cast Commit) = true
is_standing (Cast Abort) = false

-- prepared, that is standing without an outcome, or committed
abbrev pub is_held : VoteState → Option Decision → Bool
is_held v None = is_standing v
is_held v (Some Commit) = true
is_held v (Some Abort) = false

-- one step of a replica for one transaction
pub data Act : Type 0 where
  -- it votes, at once or after it has waited
  Votes : (d : Decision) → Act
  -- it puts the vote off
  Waits : Act
  -- it takes a certificate, and the transaction ends
  Ends : (d : Decision) → Act
  -- it logs a decision in view 0
  Logs : (d : Decision) → Act
  -- it answers what it has logged, once more
  Repeats : Act
  -- it enters a view and gives its decision into the election
  Enters : (view : ℕ) → Act
  -- as the leader of a view, it proposes what was elected
  Proposes : (d : Decision) (view : ℕ) → Act
  -- it logs what the leader of a view proposes
  Adopts : (d : Decision) (view : ℕ) → Act

abbrev pub entered : ℕ → Option LogCell → Option LogCell
entered w None = None
entered w (Some k) = Some (record k { current = w })

-- what it keeps afterwards
abbrev pub after : Act → Slot → Slot
after (Votes d) t = record t { vote = Cast d }
after Waits t = record t { vote = Waiting }
after (Ends d) t = record t { outcome = Some d }
after (Logs d) t = record t { cell = Some (record { decision = d; decided = 0; current = 0 }) }
after Repeats t = t
after (Enters w) t = record t { cell = entered w t.cell }
after (Proposes d v) t = t
after (Adopts d v) t = record t { cell = Some (record { decision = d; decided = v; current = v }) }

abbrev pub reply_of : (shard replica : ℕ) → Id → Option LogCell → List Word
reply_of s r x None = []
reply_of s r x (Some k) = LogReply s r x k.decision k.decided k.current ∷ []

abbrev pub election_of : (shard replica : ℕ) → Id → (view : ℕ) → Option LogCell → List Word
election_of s r x w None = []
election_of s r x w (Some k) = Election s r x k.decision w ∷ []

-- what it signs
abbrev pub words : (shard replica : ℕ) → Id → Act → Slot → List Word
words s r x (Votes d) t = Vote s r x d ∷ []
words s r x Waits t = []
words s r x (Ends d) t = []
words s r x (Logs d) t = LogReply s r x d 0 0 ∷ []
words s r x Repeats t = reply_of s r x t.cell
words s r x (Enters w) t = election_of s r x w t.cell
words s r x (Proposes d v) t = Proposal s r x d v ∷ []
words s r x (Adopts d v) t = LogReply s r x d v v ∷ []

-- no prepared or committed transaction conflicts with it on a key of the shard
abbrev pub IsClear : Setting → (shard : ℕ) → Book → Id → Type 0
IsClear c s book x = (y : Id) → c.conflict x y s ≡ true → is_held (book y).vote (book y).outcome ≡ false

-- what it depends on by a key of the shard is committed
abbrev pub DependenciesCommitted : Setting → (shard : ℕ) → Book → Id → Type 0
DependenciesCommitted c s book x = (y : Id) → c.depends x y s ≡ true → (book y).outcome ≡ Some Commit

-- a view is entered from a lower one
abbrev pub CanEnter : Option LogCell → (view : ℕ) → Type 0
CanEnter None w = ⊥
CanEnter (Some k) w = k.current < w

-- a view's decision is adopted above the decided view and not below the current one, or where nothing is logged
abbrev pub CanAdopt : Option LogCell → (view : ℕ) → Type 0
CanAdopt None v = Unit {0}
CanAdopt (Some k) v = (k.decided < v) × (k.current ≤ v)

abbrev pub IsOpen : Slot → Type 0
IsOpen t = t.outcome ≡ None

-- When a correct replica of shard s with this book may do it, where these words are signed and these transactions
-- have had an abort certificate shown.
abbrev pub May : Setting → Signed → (Id → Bool) → (shard : ℕ) → Book → Id → Act → Type 0
May c signed aborted s book x (Votes Commit) =
    IsOpen (book x) ×
    DependenciesCommitted c s book x ×
    (((book x).vote ≡ Waiting) ⊎ (((book x).vote ≡ Unvoted) × IsClear c s book x))
May c signed aborted s book x (Votes Abort) = IsOpen (book x) × (((book x).vote ≡ Waiting) ⊎ ((book x).vote ≡ Unvoted))
May c signed aborted s book x Waits = IsOpen (book x) × ((book x).vote ≡ Unvoted) × IsClear c s book x
May c signed aborted s book x (Ends Commit) = IsOpen (book x) × CanCommit c signed x
May c signed aborted s book x (Ends Abort) = IsOpen (book x) × (aborted x ≡ true)
May c signed aborted s book x (Logs d) = IsOpen (book x) × ((book x).cell ≡ None) × Tallied c signed x d
May c signed aborted s book x Repeats = Unit {0}
May c signed aborted s book x (Enters w) = IsOpen (book x) × CanEnter (book x).cell w
May c signed aborted s book x (Proposes d v) = Elected c signed x d v
May c signed aborted s book x (Adopts d v) = CanAdopt (book x).cell v × Elected c signed x d v × Proposed c signed x d v
