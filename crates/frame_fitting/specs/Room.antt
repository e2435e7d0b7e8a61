-- The room that is left, of so many bytes, behind the spelling of what fits: none where it doesn't fit, and where the
-- room is too small.
use Rattle.std.specs.Prelude.{ℕ, ◌+◌, ◌-◌, ◌^◌, List, [], ◌∷◌, length, Option, Some, None, Bool, true, ◌&&◌, ◌==◌}
use Rattle.std.specs.Prelude.{nat_le, nat_lt, if◌then◌else◌, option_and_then}
use Rattle.basil_types.specs.Limits.{signature_limit, id_size, longest_key, most_clients}
use Rattle.basil_types.specs.Transaction.{TransactionValue, canonical}
use Rattle.frame_views.specs.declared.bounds.Bounds.{Bounds}
use Rattle.frame_views.specs.Fitting.{after_vote, after_tally, after_log, after_reply, after_word, is_abort, is_commit}
use Rattle.frame_views.specs.Values.{VoteValue, TallyValue, LogValue, ReplyValue, WordValue, LoggedValue, CommitBody}
use Rattle.frame_views.specs.Values.{FastCommit, Logged, CommitValue, ConflictValue, BodyValue, Commits, FastAbort}
use Rattle.frame_views.specs.Values.{ConflictAbort, CertificateValue}
use Rattle.frame_views.specs.Values.{ReadValue, CommittedValue, ReadReplyValue, SignedValue, VotedValue, St2Value}
use Rattle.frame_views.specs.Values.{LogReplyValue, WritebackValue, InvokeValue, ElectValue, DecideValue, MessageValue}
use Rattle.frame_views.specs.Values.{Read, ReadReply, St1, Vote, St2, LogReply, Writeback, Recover, Invoke, Elect}
use Rattle.frame_views.specs.Values.{Decide}

-- ---- forms

-- one behind the other
infixr 20 ◌⨾◌
abbrev pub ◌⨾◌ : (ℕ → Option ℕ) → (ℕ → Option ℕ) → ℕ → Option ℕ
(first ⨾ second) room = option_and_then second (first room)

-- only where a test holds
abbrev pub guarded : Bool → (ℕ → Option ℕ) → ℕ → Option ℕ
guarded holds one room = if holds then one room else None

-- so many bytes
unfoldable pub spent : ℕ → ℕ → Option ℕ
spent count room = if nat_le count room then Some (room - count) else None

-- items, each of which asks something of the next
unfoldable pub items_room : {V : Type 0} → (ℕ → V → ℕ → Option ℕ) → (V → ℕ) → ℕ → List V → ℕ → Option ℕ
items_room one next floor [] room = Some room
items_room one next floor (v ∷ vs) room = option_and_then (items_room one next (next v) vs) (one floor v room)

-- items behind their number
abbrev pub counted_room : {V : Type 0} → (ℕ → V → ℕ → Option ℕ) → (V → ℕ) → List V → ℕ → Option ℕ
counted_room one next vs = guarded (nat_lt (length vs) 256) (spent 1 ⨾ items_room one next 0 vs)

-- a part behind a flag, only where this is allowed
abbrev pub part_room : {A : Type 0} → Bool → (A → ℕ → Option ℕ) → Option A → ℕ → Option ℕ
part_room allowed one None = spent 1
part_room allowed one (Some a) = guarded allowed (spent 1 ⨾ one a)

-- ---- fields

unfoldable pub number_room : ℕ → ℕ → ℕ → ℕ → Option ℕ
number_room high floor n = guarded (nat_le floor n && nat_lt n high) (spent 1)

-- eight bytes
unfoldable pub long_room : ℕ → ℕ → ℕ → Option ℕ
long_room low n = guarded (nat_le low n && nat_lt n (2 ^ 64)) (spent 8)

unfoldable pub id_room : List ℕ → ℕ → Option ℕ
id_room id = guarded (length id == id_size) (spent id_size)

unfoldable pub signature_room : List ℕ → ℕ → Option ℕ
signature_room s = guarded (nat_le 1 (length s) && nat_le (length s) signature_limit) (spent (length s + 2))

unfoldable pub key_room : List ℕ → ℕ → Option ℕ
key_room k = guarded (nat_le 1 (length k) && nat_le (length k) longest_key) (spent (length k + 1))

unfoldable pub client_room : ℕ → ℕ → Option ℕ
client_room c = guarded (nat_le 1 c && nat_le c most_clients) (spent 1)

unfoldable pub transaction_room : TransactionValue → ℕ → Option ℕ
transaction_room t = spent (length (canonical t))

-- ---- items and lists

unfoldable pub vote_room : Bounds → ℕ → VoteValue → ℕ → Option ℕ
vote_room b floor v = number_room b.replicas floor v.replica ⨾ signature_room v.signature

unfoldable pub votes_room : Bounds → List VoteValue → ℕ → Option ℕ
votes_room b = counted_room (vote_room b) after_vote

unfoldable pub tally_room : Bounds → ℕ → TallyValue → ℕ → Option ℕ
tally_room b floor t = number_room b.shards floor t.shard ⨾ votes_room b t.votes

unfoldable pub tallies_room : Bounds → List TallyValue → ℕ → Option ℕ
tallies_room b = counted_room (tally_room b) after_tally

unfoldable pub log_room : Bounds → ℕ → ℕ → LogValue → ℕ → Option ℕ
log_room b decided floor l =
    number_room b.replicas floor l.replica ⨾ long_room decided l.current ⨾ signature_room l.signature

unfoldable pub logs_room : Bounds → ℕ → List LogValue → ℕ → Option ℕ
logs_room b decided = counted_room (log_room b decided) after_log

unfoldable pub reply_room : Bounds → ℕ → ReplyValue → ℕ → Option ℕ
reply_room b floor r =
    number_room b.replicas floor r.replica ⨾ spent 1
    ⨾ long_room 0 r.decided ⨾ long_room r.decided r.current ⨾ signature_room r.signature

unfoldable pub replies_room : Bounds → List ReplyValue → ℕ → Option ℕ
replies_room b = counted_room (reply_room b) after_reply

unfoldable pub word_room : Bounds → ℕ → WordValue → ℕ → Option ℕ
word_room b floor w = number_room b.replicas floor w.replica ⨾ spent 1 ⨾ signature_room w.signature

unfoldable pub words_room : Bounds → List WordValue → ℕ → Option ℕ
words_room b = counted_room (word_room b) after_word

-- ---- certificates

unfoldable pub logged_room : Bounds → LoggedValue → ℕ → Option ℕ
logged_room b l = number_room b.shards 0 l.shard ⨾ spent 1 ⨾ long_room 0 l.decided ⨾ logs_room b l.decided l.logs

abbrev pub commit_body_room : Bounds → CommitBody → ℕ → Option ℕ
commit_body_room b (FastCommit tallies) = tallies_room b tallies
commit_body_room b (Logged logged) = logged_room b logged

unfoldable pub commit_room : Bounds → CommitValue → ℕ → Option ℕ
commit_room b c = id_room c.id ⨾ spent 1 ⨾ commit_body_room b c.body

unfoldable pub conflict_vote_room : Bounds → ℕ → ℕ → List ℕ → ℕ → Option ℕ
conflict_vote_room b shard replica signature =
    number_room b.shards 0 shard ⨾ number_room b.replicas 0 replica ⨾ signature_room signature

unfoldable pub conflict_room : Bounds → ConflictValue → ℕ → Option ℕ
conflict_room b c =
    conflict_vote_room b c.shard c.replica c.signature ⨾ transaction_room c.other ⨾ commit_room b c.proof

abbrev pub body_room : Bounds → BodyValue → ℕ → Option ℕ
body_room b (Commits body) = commit_body_room b body
body_room b (FastAbort tally) = tally_room b 0 tally
body_room b (ConflictAbort conflict) = conflict_room b conflict

unfoldable pub certificate_room : Bounds → CertificateValue → ℕ → Option ℕ
certificate_room b c = spent 1 ⨾ id_room c.id ⨾ body_room b c.body

-- of a kind that may commit
unfoldable pub committed_room : Bounds → CommittedValue → ℕ → Option ℕ
committed_room b c =
    guarded (is_commit c.certificate.body) (transaction_room c.transaction ⨾ certificate_room b c.certificate)

-- ---- messages

-- a replica's place
unfoldable pub place_room : Bounds → ℕ → ℕ → ℕ → Option ℕ
place_room b shard replica = number_room b.shards 0 shard ⨾ number_room b.replicas 0 replica

unfoldable pub read_room : ReadValue → ℕ → Option ℕ
read_room m = key_room m.key ⨾ long_room 0 m.time ⨾ client_room m.client

unfoldable pub read_reply_room : Bounds → ReadReplyValue → ℕ → Option ℕ
read_reply_room b m =
    place_room b m.shard m.replica ⨾ key_room m.key ⨾ long_room 0 m.time ⨾ client_room m.client
    ⨾ part_room true (committed_room b) m.committed ⨾ part_room true transaction_room m.prepared
    ⨾ signature_room m.signature

unfoldable pub signed_room : SignedValue → ℕ → Option ℕ
signed_room m = transaction_room m.transaction ⨾ signature_room m.signature

unfoldable pub voted_room : Bounds → VotedValue → ℕ → Option ℕ
voted_room b m =
    place_room b m.shard m.replica ⨾ id_room m.id ⨾ spent 1
    ⨾ part_room (is_abort m.decision) (committed_room b) m.proof ⨾ signature_room m.signature

unfoldable pub st2_room : Bounds → St2Value → ℕ → Option ℕ
st2_room b m = transaction_room m.transaction ⨾ signature_room m.signature ⨾ spent 1 ⨾ tallies_room b m.tallies

unfoldable pub log_reply_room : Bounds → LogReplyValue → ℕ → Option ℕ
log_reply_room b m =
    place_room b m.shard m.replica ⨾ id_room m.id ⨾ spent 1 ⨾ long_room 0 m.decided ⨾ long_room m.decided m.current
    ⨾ signature_room m.signature

unfoldable pub writeback_room : Bounds → WritebackValue → ℕ → Option ℕ
writeback_room b m = transaction_room m.transaction ⨾ certificate_room b m.certificate

unfoldable pub invoke_room : Bounds → InvokeValue → ℕ → Option ℕ
invoke_room b m = id_room m.id ⨾ number_room b.shards 0 m.shard ⨾ replies_room b m.replies

unfoldable pub elect_room : Bounds → ElectValue → ℕ → Option ℕ
elect_room b m =
    transaction_room m.transaction ⨾ place_room b m.shard m.replica ⨾ spent 1 ⨾ long_room 1 m.view
    ⨾ signature_room m.signature

unfoldable pub decide_room : Bounds → DecideValue → ℕ → Option ℕ
decide_room b m =
    transaction_room m.transaction ⨾ place_room b m.shard m.replica ⨾ spent 1 ⨾ long_room 1 m.view
    ⨾ words_room b m.words ⨾ signature_room m.signature

abbrev pub body_left : Bounds → MessageValue → ℕ → Option ℕ
body_left b (Read m) = read_room m
body_left b (ReadReply m) = read_reply_room b m
body_left b (St1 m) = signed_room m
body_left b (Vote m) = voted_room b m
body_left b (St2 m) = st2_room b m
body_left b (LogReply m) = log_reply_room b m
body_left b (Writeback m) = writeback_room b m
body_left b (Recover m) = signed_room m
body_left b (Invoke m) = invoke_room b m
body_left b (Elect m) = elect_room b m
body_left b (Decide m) = decide_room b m

-- behind the kind
unfoldable pub message_room : Bounds → MessageValue → ℕ → Option ℕ
message_room b m = spent 1 ⨾ body_left b m
