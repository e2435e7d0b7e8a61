-- What a pursuit keeps may be written in frames: it has a spelling there.
use Rattle.std.specs.Prelude.{◌≡◌, ℕ, ◌≤◌, List, [], ◌∷◌, Option}
use Rattle.std.specs.Coded.{×_prop, Π_prop, Unit-prop}
use Rattle.std.specs.List.{All}
use Rattle.std.specs.Option.{ForSome}
use Rattle.std.proofs.Props.{props}
use Rattle.basil_types.specs.Limits.{IsU64}
use Rattle.basil_types.specs.declared.party.Decision.{Decision}
use Rattle.basil_types.specs.Lists.{AreItems}
use Rattle.basil_types.specs.Transaction.{TransactionValue, IsTransaction, FitsRead, FitsWrite, key_of_read}
use Rattle.basil_types.specs.Transaction.{key_of_write}
use Rattle.frame_values.specs.declared.owned.certificate.Certificate.{Certificate}
use Rattle.frame_values.specs.declared.owned.parts.InvokePart.{InvokePart}
use Rattle.frame_values.specs.declared.owned.parts.LogPart.{LogPart}
use Rattle.frame_values.specs.Owned.{certificate_value}
use Rattle.frame_views.specs.declared.bounds.Bounds.{Bounds}
use Rattle.frame_views.specs.Fitting.{widest, IsSignature, AreCounted, after_vote, after_tally, after_log}
use Rattle.frame_views.specs.Fitting.{FitsVote, FitsVotes, FitsTally, FitsTallies, FitsLog, FitsCommitBody, FitsCommit}
use Rattle.frame_views.specs.Fitting.{FitsBody, FitsCertificate}
use Rattle.frame_views.specs.Values.{VoteValue, TallyValue, LogValue, LogReplyValue, CommitBody, FastCommit, Logged}
use Rattle.frame_views.specs.Values.{CommitValue, BodyValue, Commits, FastAbort, ConflictAbort, CertificateValue}
use Rattle.client_recover.specs.declared.logs.LastLog.{LastLog}
use Rattle.client_recover.specs.declared.logs.Latest.{Latest}
use Rattle.client_recover.specs.declared.logs.Latest.TheVariants as latest
use Rattle.client_recover.specs.declared.logs.Logs.{Logs}
use Rattle.client_recover.specs.declared.pursuit.Last.{Last}
use Rattle.client_recover.specs.declared.pursuit.Last.TheVariants as last
use Rattle.client_recover.specs.declared.votes.CountedVote.{CountedVote}
use Rattle.client_recover.specs.Replies.{earliest_at, latest_at}

-- ---- votes

abbrev pub IsSigned : CountedVote → Type 0
IsSigned v = IsSignature v.signature

abbrev pub AreSigned : List CountedVote → Type 0
AreSigned votes = All IsSigned votes

-- ---- log replies

-- a log reply, as each frame with one carries it
pub record IsSound (r : LogReplyValue) : Type 0 where
  pub decided : IsU64 r.decided
  pub later : r.decided ≤ r.current
  pub current : IsU64 r.current
  pub signature : IsSignature r.signature

-- the earliest one of a replica that was decided in a view
pub record IsEarliest (view replica : ℕ) (p : LogPart) : Type 0 where
  pub numbered : p.replica ≡ replica
  pub later : view ≤ p.current
  pub current : IsU64 p.current
  pub signature : IsSignature p.signature

-- the latest one of a replica
pub record IsLatest (replica : ℕ) (p : InvokePart) : Type 0 where
  pub numbered : p.replica ≡ replica
  pub decided : IsU64 p.decided
  pub later : p.decided ≤ p.current
  pub current : IsU64 p.current
  pub signature : IsSignature p.signature

pub record AreSound (l : Logs) : Type 0 where
  pub earliest : (d : Decision) (view replica : ℕ) → ForSome (earliest_at l d view replica) (IsEarliest view replica)
  pub latest : (replica : ℕ) → ForSome (latest_at l replica) (IsLatest replica)

-- a replica's latest one that was replaced
abbrev pub PutsBack : ℕ → Latest → Type 0
PutsBack replica before = (part : InvokePart) → before ≡ latest.Replaced part → IsLatest replica part

-- what a last frame replaced
abbrev pub IsSoundLast : Last → Type 0
IsSoundLast l = (log : LastLog) → l ≡ last.Log log → PutsBack log.replica log.latest

-- ---- an outcome

abbrev pub FitsOutcome : Option Certificate → Type 0
FitsOutcome o = ForSome o (λ c. FitsCertificate widest (certificate_value c))

-- ---- each of these has one proof at most

pub AreItems-prop : {F V : Type 0} (Fit : F → V → Type 0) (next : V → F) →
    ((floor : F) (v : V) → IsProp (Fit floor v)) → (floor : F) (vs : List V) → IsProp (AreItems Fit next floor vs)
AreItems-prop Fit next one floor [] = Unit-prop
AreItems-prop Fit next one floor (v ∷ vs) = ×_prop (one floor v) (AreItems-prop Fit next one (next v) vs)

pub AreCounted-prop : {A : Type 0} (Fit : ℕ → A → Type 0) (next : A → ℕ) →
    ((floor : ℕ) (a : A) → IsProp (Fit floor a)) → (items : List A) → IsProp (AreCounted Fit next items)
AreCounted-prop Fit next one items = Prim.hlevel (AreItems-prop Fit next one 0 items, props)

pub FitsVote-prop : (b : Bounds) (floor : ℕ) (v : VoteValue) → IsProp (FitsVote b floor v)
FitsVote-prop b floor v = Prim.hlevel props

pub FitsVotes-prop : (b : Bounds) (votes : List VoteValue) → IsProp (FitsVotes b votes)
FitsVotes-prop b votes = AreCounted-prop (FitsVote b) after_vote (FitsVote-prop b) votes

pub FitsTally-prop : (b : Bounds) (floor : ℕ) (t : TallyValue) → IsProp (FitsTally b floor t)
FitsTally-prop b floor t = Prim.hlevel (FitsVotes-prop b t.votes, props)

pub FitsTallies-prop : (b : Bounds) (tallies : List TallyValue) → IsProp (FitsTallies b tallies)
FitsTallies-prop b tallies = AreCounted-prop (FitsTally b) after_tally (FitsTally-prop b) tallies

pub FitsLog-prop : (b : Bounds) (decided floor : ℕ) (l : LogValue) → IsProp (FitsLog b decided floor l)
FitsLog-prop b decided floor l = Prim.hlevel props

pub FitsCommitBody-prop : (b : Bounds) (body : CommitBody) → IsProp (FitsCommitBody b body)
FitsCommitBody-prop b (FastCommit tallies) = FitsTallies-prop b tallies
FitsCommitBody-prop b (Logged l) =
    Prim.hlevel (AreCounted-prop (FitsLog b l.decided) after_log (FitsLog-prop b l.decided) l.logs, props)

pub FitsCommit-prop : (b : Bounds) (c : CommitValue) → IsProp (FitsCommit b c)
FitsCommit-prop b c = Prim.hlevel (FitsCommitBody-prop b c.body, props)

pub IsTransaction-prop : (t : TransactionValue) → IsProp (IsTransaction t)
IsTransaction-prop t =
    Prim.hlevel (
      AreItems-prop FitsRead key_of_read (λ before r. Prim.hlevel props) [] t.reads,
      AreItems-prop (FitsWrite t.format) key_of_write (λ before w. Prim.hlevel props) [] t.writes,
      props,
    )

pub FitsBody-prop : (b : Bounds) (body : BodyValue) → IsProp (FitsBody b body)
FitsBody-prop b (Commits body) = FitsCommitBody-prop b body
FitsBody-prop b (FastAbort tally) = FitsTally-prop b 0 tally
FitsBody-prop b (ConflictAbort c) = Prim.hlevel (IsTransaction-prop c.other, FitsCommit-prop b c.proof, props)

pub FitsCertificate-prop : (b : Bounds) (c : CertificateValue) → IsProp (FitsCertificate b c)
FitsCertificate-prop b c = Prim.hlevel (FitsBody-prop b c.body, props)

pub FitsOutcome-prop : (o : Option Certificate) → IsProp (FitsOutcome o)
FitsOutcome-prop o = Π_prop (λ c. Π_prop (λ is. FitsCertificate-prop widest (certificate_value c)))
