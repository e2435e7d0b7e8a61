-- Which values have a spelling, in a cluster of so many shards and replicas of a shard.
use Rattle.std.specs.Prelude.{◌≡◌, ℕ, ◌<◌, ◌≤◌, ◌+◌, List, length, Option, Some, None, Bool, true, false, ⊤}
use Rattle.quorum_laws.specs.Numbers as quorum
use Rattle.basil_types.specs.Lists.{AreItems}
use Rattle.basil_types.specs.Setting.{Setting}
use Rattle.basil_types.specs.Texts.{IsKey}
use Rattle.basil_types.specs.Transaction.{IsTransaction}
pub use Rattle.basil_types.specs.Decision.{is_abort}
use Rattle.basil_types.specs.Limits.{signature_limit, id_size, longest_key, most_clients, IsU64}
use Rattle.frame_views.specs.declared.bounds.Bounds.{Bounds}
use Rattle.frame_views.specs.Values.{VoteValue, TallyValue, LogValue, ReplyValue, WordValue, LoggedValue, CommitBody}
use Rattle.frame_views.specs.Values.{FastCommit, Logged, CommitValue, ConflictValue, BodyValue, Commits, FastAbort}
use Rattle.frame_views.specs.Values.{ConflictAbort, CertificateValue}
use Rattle.frame_views.specs.Values.{ReadValue, CommittedValue, ReadReplyValue, SignedValue, VotedValue, St2Value}
use Rattle.frame_views.specs.Values.{LogReplyValue, WritebackValue, InvokeValue, ElectValue, DecideValue, MessageValue}
use Rattle.frame_views.specs.Values.{Read, ReadReply, St1, Vote, St2, LogReply, Writeback, Recover, Invoke, Elect}
use Rattle.frame_views.specs.Values.{Decide}

-- shards and replicas are numbered from 0
abbrev pub bounds_of : Setting → Bounds
bounds_of c = record { shards = c.shards; replicas = quorum.replicas c.f }

-- what one byte can number
abbrev pub widest : Bounds
widest = record { shards = 256; replicas = 256 }

pub record Within (b wide : Bounds) : Type 0 where
  pub shards : b.shards ≤ wide.shards
  pub replicas : b.replicas ≤ wide.replicas

-- ---- fields

pub record IsSignature (signature : List ℕ) : Type 0 where
  pub some : 1 ≤ length signature
  pub short : length signature ≤ signature_limit

abbrev pub IsId : List ℕ → Type 0
IsId id = length id ≡ id_size

pub record IsClient (client : ℕ) : Type 0 where
  pub someone : 1 ≤ client
  pub few : client ≤ most_clients

-- a list behind a number of items of one byte
pub record AreCounted {A : Type 0} (Fit : ℕ → A → Type 0) (next : A → ℕ) (items : List A) : Type 0 where
  pub count : length items < 256
  pub each : AreItems Fit next 0 items

-- a part that is there only where this is allowed
abbrev pub FitsPart : {A : Type 0} → Bool → (A → Type 0) → Option A → Type 0
FitsPart allowed Fit None = ⊤
FitsPart allowed Fit (Some a) = (allowed ≡ true) × Fit a

-- ---- items of lists: each stands above the one before it, which asks for a number of at least floor

abbrev pub after_vote : VoteValue → ℕ
after_vote v = v.replica + 1

abbrev pub after_tally : TallyValue → ℕ
after_tally t = t.shard + 1

abbrev pub after_log : LogValue → ℕ
after_log l = l.replica + 1

abbrev pub after_reply : ReplyValue → ℕ
after_reply r = r.replica + 1

abbrev pub after_word : WordValue → ℕ
after_word w = w.replica + 1

pub record FitsVote (b : Bounds) (floor : ℕ) (v : VoteValue) : Type 0 where
  pub above : floor ≤ v.replica
  pub below : v.replica < b.replicas
  pub signature : IsSignature v.signature

abbrev pub FitsVotes : Bounds → List VoteValue → Type 0
FitsVotes b votes = AreCounted (FitsVote b) after_vote votes

pub record FitsTally (b : Bounds) (floor : ℕ) (t : TallyValue) : Type 0 where
  pub above : floor ≤ t.shard
  pub below : t.shard < b.shards
  pub votes : FitsVotes b t.votes

abbrev pub FitsTallies : Bounds → List TallyValue → Type 0
FitsTallies b tallies = AreCounted (FitsTally b) after_tally tallies

-- the current view is at least the one in which it was decided
pub record FitsLog (b : Bounds) (decided floor : ℕ) (l : LogValue) : Type 0 where
  pub above : floor ≤ l.replica
  pub below : l.replica < b.replicas
  pub later : decided ≤ l.current
  pub current : IsU64 l.current
  pub signature : IsSignature l.signature

pub record FitsReply (b : Bounds) (floor : ℕ) (r : ReplyValue) : Type 0 where
  pub above : floor ≤ r.replica
  pub below : r.replica < b.replicas
  pub decided : IsU64 r.decided
  pub later : r.decided ≤ r.current
  pub current : IsU64 r.current
  pub signature : IsSignature r.signature

pub record FitsWord (b : Bounds) (floor : ℕ) (w : WordValue) : Type 0 where
  pub above : floor ≤ w.replica
  pub below : w.replica < b.replicas
  pub signature : IsSignature w.signature

-- ---- certificates

pub record FitsLogged (b : Bounds) (l : LoggedValue) : Type 0 where
  pub shard : l.shard < b.shards
  pub decided : IsU64 l.decided
  pub logs : AreCounted (FitsLog b l.decided) after_log l.logs

abbrev pub FitsCommitBody : Bounds → CommitBody → Type 0
FitsCommitBody b (FastCommit tallies) = FitsTallies b tallies
FitsCommitBody b (Logged logged) = FitsLogged b logged

pub record FitsCommit (b : Bounds) (c : CommitValue) : Type 0 where
  pub id : IsId c.id
  pub body : FitsCommitBody b c.body

pub record FitsConflict (b : Bounds) (c : ConflictValue) : Type 0 where
  pub shard : c.shard < b.shards
  pub replica : c.replica < b.replicas
  pub signature : IsSignature c.signature
  pub other : IsTransaction c.other
  pub proof : FitsCommit b c.proof

abbrev pub FitsBody : Bounds → BodyValue → Type 0
FitsBody b (Commits body) = FitsCommitBody b body
FitsBody b (FastAbort tally) = FitsTally b 0 tally
FitsBody b (ConflictAbort conflict) = FitsConflict b conflict

pub record FitsCertificate (b : Bounds) (c : CertificateValue) : Type 0 where
  pub id : IsId c.id
  pub body : FitsBody b c.body

-- of a kind that may commit
abbrev pub is_commit : BodyValue → Bool
is_commit (Commits body) = true
is_commit (FastAbort tally) = false
is_commit (ConflictAbort conflict) = false

-- ---- messages

pub record FitsCommitted (b : Bounds) (c : CommittedValue) : Type 0 where
  pub transaction : IsTransaction c.transaction
  pub certificate : FitsCertificate b c.certificate
  pub commits : is_commit c.certificate.body ≡ true

pub record FitsRead (m : ReadValue) : Type 0 where
  pub key : IsKey m.key
  pub time : IsU64 m.time
  pub client : IsClient m.client

pub record FitsReadReply (b : Bounds) (m : ReadReplyValue) : Type 0 where
  pub shard : m.shard < b.shards
  pub replica : m.replica < b.replicas
  pub key : IsKey m.key
  pub time : IsU64 m.time
  pub client : IsClient m.client
  pub committed : FitsPart true (FitsCommitted b) m.committed
  pub prepared : FitsPart true IsTransaction m.prepared
  pub signature : IsSignature m.signature

pub record FitsSigned (m : SignedValue) : Type 0 where
  pub transaction : IsTransaction m.transaction
  pub signature : IsSignature m.signature

-- a vote to commit has no proof
pub record FitsVoted (b : Bounds) (m : VotedValue) : Type 0 where
  pub shard : m.shard < b.shards
  pub replica : m.replica < b.replicas
  pub id : IsId m.id
  pub proof : FitsPart (is_abort m.decision) (FitsCommitted b) m.proof
  pub signature : IsSignature m.signature

pub record FitsSt2 (b : Bounds) (m : St2Value) : Type 0 where
  pub transaction : IsTransaction m.transaction
  pub signature : IsSignature m.signature
  pub tallies : FitsTallies b m.tallies

pub record FitsLogReply (b : Bounds) (m : LogReplyValue) : Type 0 where
  pub shard : m.shard < b.shards
  pub replica : m.replica < b.replicas
  pub id : IsId m.id
  pub decided : IsU64 m.decided
  pub later : m.decided ≤ m.current
  pub current : IsU64 m.current
  pub signature : IsSignature m.signature

pub record FitsWriteback (b : Bounds) (m : WritebackValue) : Type 0 where
  pub transaction : IsTransaction m.transaction
  pub certificate : FitsCertificate b m.certificate

pub record FitsInvoke (b : Bounds) (m : InvokeValue) : Type 0 where
  pub id : IsId m.id
  pub shard : m.shard < b.shards
  pub replies : AreCounted (FitsReply b) after_reply m.replies

pub record FitsElect (b : Bounds) (m : ElectValue) : Type 0 where
  pub transaction : IsTransaction m.transaction
  pub shard : m.shard < b.shards
  pub replica : m.replica < b.replicas
  pub some : 1 ≤ m.view
  pub view : IsU64 m.view
  pub signature : IsSignature m.signature

pub record FitsDecide (b : Bounds) (m : DecideValue) : Type 0 where
  pub transaction : IsTransaction m.transaction
  pub shard : m.shard < b.shards
  pub replica : m.replica < b.replicas
  pub some : 1 ≤ m.view
  pub view : IsU64 m.view
  pub words : AreCounted (FitsWord b) after_word m.words
  pub signature : IsSignature m.signature

abbrev pub FitsMessage : Bounds → MessageValue → Type 0
FitsMessage b (Read m) = FitsRead m
FitsMessage b (ReadReply m) = FitsReadReply b m
FitsMessage b (St1 m) = FitsSigned m
FitsMessage b (Vote m) = FitsVoted b m
FitsMessage b (St2 m) = FitsSt2 b m
FitsMessage b (LogReply m) = FitsLogReply b m
FitsMessage b (Writeback m) = FitsWriteback b m
FitsMessage b (Recover m) = FitsSigned m
FitsMessage b (Invoke m) = FitsInvoke b m
FitsMessage b (Elect m) = FitsElect b m
FitsMessage b (Decide m) = FitsDecide b m

-- ---- what signed words ask for

pub record IsKeyLength (length-of : ℕ) : Type 0 where
  pub some : 1 ≤ length-of
  pub short : length-of ≤ longest_key

-- a read reply's key has 1 to 64 bytes, as that of each read reply that fits
abbrev pub IsSpoken : MessageValue → Type 0
IsSpoken (Read m) = ⊤
IsSpoken (ReadReply m) = IsKeyLength (length m.key)
IsSpoken (St1 m) = ⊤
IsSpoken (Vote m) = ⊤
IsSpoken (St2 m) = ⊤
IsSpoken (LogReply m) = ⊤
IsSpoken (Writeback m) = ⊤
IsSpoken (Recover m) = ⊤
IsSpoken (Invoke m) = ⊤
IsSpoken (Elect m) = ⊤
IsSpoken (Decide m) = ⊤
