-- The one spelling of each value.
use Rattle.std.specs.Prelude.{ℕ, List, [], ◌∷◌, ◌++◌, length, Option, Some, None}
use Rattle.std.specs.List.{flat_map}
use Rattle.std.specs.Int.{to_be_bytes, w64}
use Rattle.basil_types.specs.Words.{decision_byte}
use Rattle.basil_types.specs.Transaction.{canonical, short_text, long_text}
use Rattle.frame_views.specs.declared.kind.Kind.{Kind}
use Rattle.frame_views.specs.declared.kind.Kind.TheVariants as kind
use Rattle.frame_views.specs.Values.{VoteValue, TallyValue, LogValue, ReplyValue, WordValue, LoggedValue, CommitBody}
use Rattle.frame_views.specs.Values.{FastCommit, Logged, CommitValue, ConflictValue, BodyValue, Commits, FastAbort}
use Rattle.frame_views.specs.Values.{ConflictAbort, CertificateValue}
use Rattle.frame_views.specs.Values.{ReadValue, CommittedValue, ReadReplyValue, SignedValue, VotedValue, St2Value}
use Rattle.frame_views.specs.Values.{LogReplyValue, WritebackValue, InvokeValue, ElectValue, DecideValue, MessageValue}
use Rattle.frame_views.specs.Values.{Read, ReadReply, St1, Vote, St2, LogReply, Writeback, Recover, Invoke, Elect}
use Rattle.frame_views.specs.Values.{Decide}

-- eight bytes, big-endian
unfoldable pub u64_bytes : ℕ → List ℕ
u64_bytes n = to_be_bytes w64 n

-- a list behind its number of items
abbrev pub counted : {A : Type 0} → (A → List ℕ) → List A → List ℕ
counted one items = length items ∷ flat_map one items

-- a part behind a flag that tells whether it is there
abbrev pub optional : {A : Type 0} → (A → List ℕ) → Option A → List ℕ
optional one None = 0 ∷ []
optional one (Some a) = 1 ∷ one a

abbrev pub vote_bytes : VoteValue → List ℕ
vote_bytes v = v.replica ∷ long_text v.signature

abbrev pub tally_bytes : TallyValue → List ℕ
tally_bytes t = t.shard ∷ counted vote_bytes t.votes

abbrev pub tallies_bytes : List TallyValue → List ℕ
tallies_bytes tallies = counted tally_bytes tallies

abbrev pub log_bytes : LogValue → List ℕ
log_bytes l = l.replica ∷ (u64_bytes l.current ++ long_text l.signature)

abbrev pub reply_bytes : ReplyValue → List ℕ
reply_bytes r =
    r.replica ∷ decision_byte r.decision ∷ (u64_bytes r.decided ++ (u64_bytes r.current ++ long_text r.signature))

abbrev pub word_bytes : WordValue → List ℕ
word_bytes w = w.replica ∷ decision_byte w.decision ∷ long_text w.signature

-- ---- certificates

abbrev pub logged_bytes : LoggedValue → List ℕ
logged_bytes l = l.shard ∷ decision_byte l.decision ∷ (u64_bytes l.decided ++ counted log_bytes l.logs)

abbrev pub commit_kind : CommitBody → ℕ
commit_kind (FastCommit tallies) = 1
commit_kind (Logged logged) = 2

abbrev pub commit_body_bytes : CommitBody → List ℕ
commit_body_bytes (FastCommit tallies) = tallies_bytes tallies
commit_body_bytes (Logged logged) = logged_bytes logged

abbrev pub commit_bytes : CommitValue → List ℕ
commit_bytes c = commit_kind c.body ∷ (c.id ++ commit_body_bytes c.body)

abbrev pub conflict_bytes : ConflictValue → List ℕ
conflict_bytes c = c.shard ∷ c.replica ∷ (long_text c.signature ++ (canonical c.other ++ commit_bytes c.proof))

abbrev pub certificate_kind : BodyValue → ℕ
certificate_kind (Commits body) = commit_kind body
certificate_kind (FastAbort tally) = 3
certificate_kind (ConflictAbort conflict) = 4

abbrev pub body_bytes : BodyValue → List ℕ
body_bytes (Commits body) = commit_body_bytes body
body_bytes (FastAbort tally) = tally_bytes tally
body_bytes (ConflictAbort conflict) = conflict_bytes conflict

abbrev pub certificate_bytes : CertificateValue → List ℕ
certificate_bytes c = certificate_kind c.body ∷ (c.id ++ body_bytes c.body)

-- ---- messages

abbrev pub committed_bytes : CommittedValue → List ℕ
committed_bytes c = canonical c.transaction ++ certificate_bytes c.certificate

abbrev pub read_bytes : ReadValue → List ℕ
read_bytes r = short_text r.key ++ (u64_bytes r.time ++ r.client ∷ [])

abbrev pub read_reply_bytes : ReadReplyValue → List ℕ
read_reply_bytes r =
    r.shard ∷ r.replica ∷ (short_text r.key ++
    (u64_bytes r.time ++ r.client ∷ (optional committed_bytes r.committed
    ++ (optional canonical r.prepared ++ long_text r.signature))))

abbrev pub signed_bytes : SignedValue → List ℕ
signed_bytes s = canonical s.transaction ++ long_text s.signature

abbrev pub voted_bytes : VotedValue → List ℕ
voted_bytes v =
    v.shard ∷ v.replica ∷ (v.id ++ decision_byte v.decision
    ∷ (optional committed_bytes v.proof ++ long_text v.signature))

abbrev pub st2_bytes : St2Value → List ℕ
st2_bytes s = canonical s.transaction ++ (long_text s.signature ++ decision_byte s.decision ∷ tallies_bytes s.tallies)

abbrev pub log_reply_bytes : LogReplyValue → List ℕ
log_reply_bytes r =
    r.shard ∷ r.replica ∷ (r.id ++ decision_byte r.decision
    ∷ (u64_bytes r.decided ++ (u64_bytes r.current ++ long_text r.signature)))

abbrev pub writeback_bytes : WritebackValue → List ℕ
writeback_bytes w = canonical w.transaction ++ certificate_bytes w.certificate

abbrev pub invoke_bytes : InvokeValue → List ℕ
invoke_bytes i = i.id ++ i.shard ∷ counted reply_bytes i.replies

abbrev pub elect_bytes : ElectValue → List ℕ
elect_bytes e =
    canonical e.transaction ++ e.shard ∷ e.replica ∷ decision_byte e.decision
    ∷ (u64_bytes e.view ++ long_text e.signature)

abbrev pub decide_bytes : DecideValue → List ℕ
decide_bytes d =
    canonical d.transaction ++ d.shard ∷ d.replica ∷ decision_byte d.decision
    ∷ (u64_bytes d.view ++ (counted word_bytes d.words ++ long_text d.signature))

abbrev pub message_bytes : MessageValue → List ℕ
message_bytes (Read m) = read_bytes m
message_bytes (ReadReply m) = read_reply_bytes m
message_bytes (St1 m) = signed_bytes m
message_bytes (Vote m) = voted_bytes m
message_bytes (St2 m) = st2_bytes m
message_bytes (LogReply m) = log_reply_bytes m
message_bytes (Writeback m) = writeback_bytes m
message_bytes (Recover m) = signed_bytes m
message_bytes (Invoke m) = invoke_bytes m
message_bytes (Elect m) = elect_bytes m
message_bytes (Decide m) = decide_bytes m

abbrev pub kind_of : MessageValue → Kind
kind_of (Read m) = kind.Read
kind_of (ReadReply m) = kind.ReadReply
kind_of (St1 m) = kind.St1
kind_of (Vote m) = kind.Vote
kind_of (St2 m) = kind.St2
kind_of (LogReply m) = kind.LogReply
kind_of (Writeback m) = kind.Writeback
kind_of (Recover m) = kind.Recover
kind_of (Invoke m) = kind.Invoke
kind_of (Elect m) = kind.Elect
kind_of (Decide m) = kind.Decide

abbrev pub kind_byte : Kind → ℕ
kind_byte kind.Read = 1
kind_byte kind.ReadReply = 2
kind_byte kind.St1 = 3
kind_byte kind.Vote = 4
kind_byte kind.St2 = 5
kind_byte kind.LogReply = 6
kind_byte kind.Writeback = 7
kind_byte kind.Recover = 8
kind_byte kind.Invoke = 9
kind_byte kind.Elect = 10
kind_byte kind.Decide = 11

-- the frame of a message
abbrev pub spelling : MessageValue → List ℕ
spelling m = kind_byte (kind_of m) ∷ message_bytes m
