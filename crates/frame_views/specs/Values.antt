-- Messages and certificates as plain values. Owned messages and views of frames both stand for these.
use Rattle.std.specs.Prelude.{ℕ, List, [], Option}
use Rattle.basil_types.specs.declared.party.Decision.{Decision}
use Rattle.basil_types.specs.Transaction.{TransactionValue}

-- ---- items of lists

pub record VoteValue : Type 0 where
  pub replica : ℕ
  pub signature : List ℕ

-- the votes of one shard
pub record TallyValue : Type 0 where
  pub shard : ℕ
  pub votes : List VoteValue

pub record LogValue : Type 0 where
  pub replica : ℕ
  pub current : ℕ
  pub signature : List ℕ

pub record ReplyValue : Type 0 where
  pub replica : ℕ
  pub decision : Decision
  pub decided : ℕ
  pub current : ℕ
  pub signature : List ℕ

pub record WordValue : Type 0 where
  pub replica : ℕ
  pub decision : Decision
  pub signature : List ℕ

-- ---- certificates; a conflict abort holds a commit certificate, and this is the only nesting

pub record LoggedValue : Type 0 where
  pub shard : ℕ
  pub decision : Decision
  pub decided : ℕ
  pub logs : List LogValue

pub data CommitBody : Type 0 where
  FastCommit : (tallies : List TallyValue) → CommitBody
  Logged : (logged : LoggedValue) → CommitBody

-- a certificate of a kind that may commit
pub record CommitValue : Type 0 where
  pub id : List ℕ
  pub body : CommitBody

pub record ConflictValue : Type 0 where
  pub shard : ℕ
  pub replica : ℕ
  pub signature : List ℕ
  pub other : TransactionValue
  pub proof : CommitValue

pub data BodyValue : Type 0 where
  Commits : (body : CommitBody) → BodyValue
  FastAbort : (tally : TallyValue) → BodyValue
  ConflictAbort : (conflict : ConflictValue) → BodyValue

pub record CertificateValue : Type 0 where
  pub id : List ℕ
  pub body : BodyValue

abbrev pub as_certificate : CommitValue → CertificateValue
as_certificate c = record { id = c.id; body = Commits c.body }

-- a certificate of a kind that may commit as one; another kind is none, and what stands for it has no spelling
abbrev pub commit_with : List ℕ → BodyValue → CommitValue
commit_with id (Commits body) = record { id = id; body = body }
commit_with id (FastAbort tally) = record { id = []; body = FastCommit [] }
commit_with id (ConflictAbort conflict) = record { id = []; body = FastCommit [] }

abbrev pub as_commit : CertificateValue → CommitValue
as_commit c = commit_with c.id c.body

-- ---- messages

pub record ReadValue : Type 0 where
  pub key : List ℕ
  pub time : ℕ
  pub client : ℕ

pub record CommittedValue : Type 0 where
  pub transaction : TransactionValue
  pub certificate : CertificateValue

-- a transaction with a certificate of any kind
abbrev pub PairValue : Type 0
PairValue = CommittedValue

pub record ReadReplyValue : Type 0 where
  pub shard : ℕ
  pub replica : ℕ
  pub key : List ℕ
  pub time : ℕ
  pub client : ℕ
  pub committed : Option CommittedValue
  pub prepared : Option TransactionValue
  pub signature : List ℕ

-- a transaction that its client signed
pub record SignedValue : Type 0 where
  pub transaction : TransactionValue
  pub signature : List ℕ

pub record VotedValue : Type 0 where
  pub shard : ℕ
  pub replica : ℕ
  pub id : List ℕ
  pub decision : Decision
  pub proof : Option CommittedValue
  pub signature : List ℕ

pub record St2Value : Type 0 where
  pub transaction : TransactionValue
  pub signature : List ℕ
  pub decision : Decision
  pub tallies : List TallyValue

pub record LogReplyValue : Type 0 where
  pub shard : ℕ
  pub replica : ℕ
  pub id : List ℕ
  pub decision : Decision
  pub decided : ℕ
  pub current : ℕ
  pub signature : List ℕ

pub record WritebackValue : Type 0 where
  pub transaction : TransactionValue
  pub certificate : CertificateValue

pub record InvokeValue : Type 0 where
  pub id : List ℕ
  pub shard : ℕ
  pub replies : List ReplyValue

pub record ElectValue : Type 0 where
  pub transaction : TransactionValue
  pub shard : ℕ
  pub replica : ℕ
  pub decision : Decision
  pub view : ℕ
  pub signature : List ℕ

pub record DecideValue : Type 0 where
  pub transaction : TransactionValue
  pub shard : ℕ
  pub replica : ℕ
  pub decision : Decision
  pub view : ℕ
  pub words : List WordValue
  pub signature : List ℕ

pub data MessageValue : Type 0 where
  Read : (read : ReadValue) → MessageValue
  ReadReply : (reply : ReadReplyValue) → MessageValue
  St1 : (first : SignedValue) → MessageValue
  Vote : (vote : VotedValue) → MessageValue
  St2 : (second : St2Value) → MessageValue
  LogReply : (reply : LogReplyValue) → MessageValue
  Writeback : (writeback : WritebackValue) → MessageValue
  Recover : (recover : SignedValue) → MessageValue
  Invoke : (invoke : InvokeValue) → MessageValue
  Elect : (elect : ElectValue) → MessageValue
  Decide : (decide : DecideValue) → MessageValue
