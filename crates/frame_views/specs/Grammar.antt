-- Messages and certificates read from left to right, with the first fault that is met.
use Rattle.std.specs.Prelude.{ℕ, List, length, Result, Ok, Err, Option, Bool, true, nat_le, nat_lt}
use Rattle.std.specs.Prelude.{◌==◌, ◌&&◌, if◌then◌else◌}
use Rattle.std.specs.Int.{w16, w64}
use Rattle.basil_types.specs.declared.reading.Fault.{Fault}
use Rattle.basil_types.specs.declared.reading.Fault.TheVariants.{Range, Order}
use Rattle.basil_types.specs.declared.party.Decision.{Decision}
use Rattle.basil_types.specs.declared.party.Decision.TheVariants.{Commit, Abort}
use Rattle.basil_types.specs.Decision.{is_abort}
use Rattle.basil_types.specs.Limits.{signature_limit, id_size}
use Rattle.basil_types.specs.Steps.{◌>>=◌}
use Rattle.basil_types.specs.Lists.{items_at}
use Rattle.basil_types.specs.Reading.{byte_at, between, number_at, run_at, key_at}
use Rattle.basil_types.specs.Parsed.{transaction_at}
use Rattle.basil_types.specs.Transaction.{TransactionValue}
use Rattle.frame_views.specs.declared.bounds.Bounds.{Bounds}
use Rattle.frame_views.specs.declared.kind.Kind.{Kind}
use Rattle.frame_views.specs.declared.kind.Kind.TheVariants as kind
use Rattle.frame_views.specs.Forms.{◌▹◌, ◌‖◌, made, part_at, allowed_flag_at}
use Rattle.frame_views.specs.Fitting.{after_vote, after_tally, after_log, after_reply, after_word}
use Rattle.frame_views.specs.Values.{VoteValue, TallyValue, LogValue, ReplyValue, WordValue, LoggedValue, CommitBody}
use Rattle.frame_views.specs.Values.{FastCommit, Logged, CommitValue, ConflictValue, BodyValue, Commits, FastAbort}
use Rattle.frame_views.specs.Values.{ConflictAbort, CertificateValue, as_certificate}
use Rattle.frame_views.specs.Values.{ReadValue, CommittedValue, ReadReplyValue, SignedValue, VotedValue, St2Value}
use Rattle.frame_views.specs.Values.{LogReplyValue, WritebackValue, InvokeValue, ElectValue, DecideValue, MessageValue}
use Rattle.frame_views.specs.Values.{Read, ReadReply, St1, Vote, St2, LogReply, Writeback, Recover, Invoke, Elect}
use Rattle.frame_views.specs.Values.{Decide}

-- ---- fields

-- a text of 1 to signature_limit bytes: its length in two bytes, and then its bytes
unfoldable pub signature_at : List ℕ → Result (List ℕ × List ℕ) Fault
signature_at bytes = do
  n ← number_at w16 bytes
  if nat_le 1 n.0 && nat_le n.0 signature_limit then run_at n.0 n.1 else Err (Range (length bytes))

unfoldable pub decision_at : List ℕ → Result (Decision × List ℕ) Fault
decision_at bytes = do
  b ← between 0 2 bytes
  Ok ((if b.0 == 1 then Abort else Commit), b.1)

-- a number of eight bytes that is at least low
unfoldable pub number_from_at : ℕ → List ℕ → Result (ℕ × List ℕ) Fault
number_from_at low bytes = do
  n ← number_at w64 bytes
  if nat_le low n.0 then Ok n else Err (Range (length bytes))

-- a number of a list, below high, and in order where it is at least floor
unfoldable pub next_number_at : ℕ → ℕ → List ℕ → Result (ℕ × List ℕ) Fault
next_number_at high floor bytes = do
  b ← between 0 high bytes
  if nat_le floor b.0 then Ok b else Err (Order (length bytes))

-- a list behind its number of items
abbrev pub counted_at : {V : Type 0} → (ℕ → List ℕ → Result (V × List ℕ) Fault) → (V → ℕ) → List ℕ
    → Result (List V × List ℕ) Fault
counted_at one next bytes = do
  count ← byte_at bytes
  items_at one next count.0 0 count.1

-- a part behind a flag, which is 1 only where this is allowed
abbrev pub maybe_at : {A : Type 0} → Bool → (List ℕ → Result (A × List ℕ) Fault) → List ℕ
    → Result (Option A × List ℕ) Fault
maybe_at allowed one bytes = do
  flag ← allowed_flag_at allowed bytes
  part_at one flag.0 flag.1

-- ---- items of lists

unfoldable pub vote_at : Bounds → ℕ → List ℕ → Result (VoteValue × List ℕ) Fault
vote_at b floor bytes =
    made (λ x. record { replica = x.0; signature = x.1 }) (next_number_at b.replicas floor ‖ signature_at) bytes

unfoldable pub votes_at : Bounds → List ℕ → Result (List VoteValue × List ℕ) Fault
votes_at b bytes = counted_at (vote_at b) after_vote bytes

unfoldable pub tally_at : Bounds → ℕ → List ℕ → Result (TallyValue × List ℕ) Fault
tally_at b floor bytes =
    made (λ x. record { shard = x.0; votes = x.1 }) (next_number_at b.shards floor ‖ votes_at b) bytes

unfoldable pub tallies_at : Bounds → List ℕ → Result (List TallyValue × List ℕ) Fault
tallies_at b bytes = counted_at (tally_at b) after_tally bytes

unfoldable pub log_at : Bounds → ℕ → ℕ → List ℕ → Result (LogValue × List ℕ) Fault
log_at b decided floor bytes =
    made (λ x. record { replica = x.0; current = x.1.0; signature = x.1.1 })
    (next_number_at b.replicas floor ‖ number_from_at decided ‖ signature_at) bytes

unfoldable pub logs_at : Bounds → ℕ → List ℕ → Result (List LogValue × List ℕ) Fault
logs_at b decided bytes = counted_at (log_at b decided) after_log bytes

unfoldable pub reply_at : Bounds → ℕ → List ℕ → Result (ReplyValue × List ℕ) Fault
reply_at b floor bytes =
    made (λ x. record {
      replica = x.0;
      decision = x.1.0;
      decided = x.1.1.0;
      current = x.1.1.1.0;
      signature = x.1.1.1.1;
    })
    (next_number_at b.replicas floor ‖ decision_at
    ‖ (number_at w64 ▹ λ decided. number_from_at decided ‖ signature_at)) bytes

unfoldable pub replies_at : Bounds → List ℕ → Result (List ReplyValue × List ℕ) Fault
replies_at b bytes = counted_at (reply_at b) after_reply bytes

unfoldable pub word_at : Bounds → ℕ → List ℕ → Result (WordValue × List ℕ) Fault
word_at b floor bytes =
    made (λ x. record { replica = x.0; decision = x.1.0; signature = x.1.1 })
    (next_number_at b.replicas floor ‖ decision_at ‖ signature_at) bytes

unfoldable pub words_at : Bounds → List ℕ → Result (List WordValue × List ℕ) Fault
words_at b bytes = counted_at (word_at b) after_word bytes

-- ---- certificates

unfoldable pub logged_at : Bounds → List ℕ → Result (LoggedValue × List ℕ) Fault
logged_at b bytes =
    made (λ x. record { shard = x.0; decision = x.1.0; decided = x.1.1.0; logs = x.1.1.1 })
    (between 0 b.shards ‖ decision_at ‖ (number_at w64 ▹ λ decided. logs_at b decided)) bytes

unfoldable pub commit_body_at : Bounds → ℕ → List ℕ → Result (CommitBody × List ℕ) Fault
commit_body_at b kind bytes =
    if kind == 1 then made FastCommit (tallies_at b) bytes else made Logged (logged_at b) bytes

-- a certificate of kind 1 or 2
unfoldable pub commit_at : Bounds → List ℕ → Result (CommitValue × List ℕ) Fault
commit_at b bytes =
    made (λ x. record { id = x.1.0; body = x.1.1 }) (between 1 3 ▹ λ kind. run_at id_size ‖ commit_body_at b kind) bytes

-- the votes of one shard
unfoldable pub fast_abort_at : Bounds → List ℕ → Result (TallyValue × List ℕ) Fault
fast_abort_at b bytes = made (λ x. record { shard = x.0; votes = x.1 }) (between 0 b.shards ‖ votes_at b) bytes

unfoldable pub conflict_at : Bounds → List ℕ → Result (ConflictValue × List ℕ) Fault
conflict_at b bytes =
    made (λ x. record { shard = x.0; replica = x.1.0; signature = x.1.1.0; other = x.1.1.1.0; proof = x.1.1.1.1 })
    (between 0 b.shards ‖ between 0 b.replicas ‖ signature_at ‖ transaction_at ‖ commit_at b) bytes

unfoldable pub body_at : Bounds → ℕ → List ℕ → Result (BodyValue × List ℕ) Fault
body_at b kind bytes =
    if nat_lt kind 3 then made Commits (commit_body_at b kind) bytes
    else (if kind == 3 then made FastAbort (fast_abort_at b) bytes else made ConflictAbort (conflict_at b) bytes)

-- a certificate of kind 1 to 4
unfoldable pub certificate_at : Bounds → List ℕ → Result (CertificateValue × List ℕ) Fault
certificate_at b bytes =
    made (λ x. record { id = x.1.0; body = x.1.1 }) (between 1 5 ▹ λ kind. run_at id_size ‖ body_at b kind) bytes

-- ---- messages behind their kinds

unfoldable pub committed_at : Bounds → List ℕ → Result (CommittedValue × List ℕ) Fault
committed_at b bytes =
    made (λ x. record { transaction = x.0; certificate = as_certificate x.1 }) (transaction_at ‖ commit_at b) bytes

unfoldable pub maybe_committed_at : Bounds → Bool → List ℕ → Result (Option CommittedValue × List ℕ) Fault
maybe_committed_at b allowed bytes = maybe_at allowed (committed_at b) bytes

unfoldable pub maybe_prepared_at : List ℕ → Result (Option TransactionValue × List ℕ) Fault
maybe_prepared_at bytes = maybe_at true transaction_at bytes

unfoldable pub read_message_at : List ℕ → Result (ReadValue × List ℕ) Fault
read_message_at bytes =
    made (λ x. record { key = x.0; time = x.1.0; client = x.1.1 }) (key_at ‖ number_at w64 ‖ between 1 17) bytes

unfoldable pub read_reply_at : Bounds → List ℕ → Result (ReadReplyValue × List ℕ) Fault
read_reply_at b bytes =
    made (λ x. record {
      shard = x.0;
      replica = x.1.0;
      key = x.1.1.0.key;
      time = x.1.1.0.time;
      client = x.1.1.0.client;
      committed = x.1.1.1.0;
      prepared = x.1.1.1.1.0;
      signature = x.1.1.1.1.1;
    })
    (between 0 b.shards ‖ between 0 b.replicas ‖ read_message_at ‖ maybe_committed_at b true ‖ maybe_prepared_at
    ‖ signature_at) bytes

unfoldable pub signed_at : List ℕ → Result (SignedValue × List ℕ) Fault
signed_at bytes = made (λ x. record { transaction = x.0; signature = x.1 }) (transaction_at ‖ signature_at) bytes

unfoldable pub voted_at : Bounds → List ℕ → Result (VotedValue × List ℕ) Fault
voted_at b bytes =
    made (λ x. record {
      shard = x.0;
      replica = x.1.0;
      id = x.1.1.0;
      decision = x.1.1.1.0;
      proof = x.1.1.1.1.0;
      signature = x.1.1.1.1.1;
    })
    (between 0 b.shards ‖ between 0 b.replicas ‖ run_at id_size
    ‖ (decision_at ▹ λ decision. maybe_committed_at b (is_abort decision) ‖ signature_at)) bytes

unfoldable pub st2_at : Bounds → List ℕ → Result (St2Value × List ℕ) Fault
st2_at b bytes =
    made (λ x. record { transaction = x.0; signature = x.1.0; decision = x.1.1.0; tallies = x.1.1.1 })
    (transaction_at ‖ signature_at ‖ decision_at ‖ tallies_at b) bytes

unfoldable pub log_reply_at : Bounds → List ℕ → Result (LogReplyValue × List ℕ) Fault
log_reply_at b bytes =
    made (λ x. record {
      shard = x.0;
      replica = x.1.0;
      id = x.1.1.0;
      decision = x.1.1.1.0;
      decided = x.1.1.1.1.0;
      current = x.1.1.1.1.1.0;
      signature = x.1.1.1.1.1.1;
    })
    (between 0 b.shards ‖ between 0 b.replicas ‖ run_at id_size ‖ decision_at
    ‖ (number_at w64 ▹ λ decided. number_from_at decided ‖ signature_at)) bytes

unfoldable pub writeback_at : Bounds → List ℕ → Result (WritebackValue × List ℕ) Fault
writeback_at b bytes =
    made (λ x. record { transaction = x.0; certificate = x.1 }) (transaction_at ‖ certificate_at b) bytes

unfoldable pub invoke_at : Bounds → List ℕ → Result (InvokeValue × List ℕ) Fault
invoke_at b bytes =
    made (λ x. record { id = x.0; shard = x.1.0; replies = x.1.1 })
    (run_at id_size ‖ between 0 b.shards ‖ replies_at b) bytes

unfoldable pub elect_at : Bounds → List ℕ → Result (ElectValue × List ℕ) Fault
elect_at b bytes =
    made (λ x. record {
      transaction = x.0;
      shard = x.1.0;
      replica = x.1.1.0;
      decision = x.1.1.1.0;
      view = x.1.1.1.1.0;
      signature = x.1.1.1.1.1;
    })
    (transaction_at ‖ between 0 b.shards ‖ between 0 b.replicas ‖ decision_at ‖ number_from_at 1 ‖ signature_at) bytes

unfoldable pub decide_at : Bounds → List ℕ → Result (DecideValue × List ℕ) Fault
decide_at b bytes =
    made (λ x. record {
      transaction = x.0;
      shard = x.1.0;
      replica = x.1.1.0;
      decision = x.1.1.1.0;
      view = x.1.1.1.1.0;
      words = x.1.1.1.1.1.0;
      signature = x.1.1.1.1.1.1;
    })
    (transaction_at ‖ between 0 b.shards ‖ between 0 b.replicas ‖ decision_at ‖ number_from_at 1 ‖ words_at b
    ‖ signature_at) bytes

unfoldable pub message_at : Bounds → Kind → List ℕ → Result (MessageValue × List ℕ) Fault
message_at b kind.Read bytes = made Read read_message_at bytes
message_at b kind.ReadReply bytes = made ReadReply (read_reply_at b) bytes
message_at b kind.St1 bytes = made St1 signed_at bytes
message_at b kind.Vote bytes = made Vote (voted_at b) bytes
message_at b kind.St2 bytes = made St2 (st2_at b) bytes
message_at b kind.LogReply bytes = made LogReply (log_reply_at b) bytes
message_at b kind.Writeback bytes = made Writeback (writeback_at b) bytes
message_at b kind.Recover bytes = made Recover signed_at bytes
message_at b kind.Invoke bytes = made Invoke (invoke_at b) bytes
message_at b kind.Elect bytes = made Elect (elect_at b) bytes
message_at b kind.Decide bytes = made Decide (decide_at b) bytes
