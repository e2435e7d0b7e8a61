-- Items, certificates and messages: what is read was spelled so and fits, and what fits is read again.
use Rattle.std.proofs.Common.{◌≡◌, ℕ, ◌<◌, ◌≤◌, Bool, true, false, cond, eqb, ltb, List, [], ◌∷◌, ◌++◌, Option, Result, Ok}
use Rattle.std.proofs.Common.{refl, sym, ap, subst, append_assoc, arith}
use Rattle.std.specs.Int.{w64}
use Rattle.std.proofs.lemmas.Bool.{ltb-true, ltb-false}
use Rattle.basil_types.specs.Limits.{IsU64}
use Rattle.basil_types.specs.declared.reading.Fault.{Fault}
use Rattle.basil_types.specs.declared.party.Decision.{Decision}
use Rattle.basil_types.specs.Texts.{IsBytes}
use Rattle.basil_types.specs.Reading.{number_at, run_at, between, key_at}
use Rattle.basil_types.specs.Parsed.{transaction_at}
use Rattle.basil_types.specs.Transaction.{TransactionValue, IsTransaction, canonical, short_text, long_text}
use Rattle.basil_types.proofs.Fields.{Takes}
use Rattle.basil_types.proofs.ListLaws.{Reads}
use Rattle.frame_views.specs.declared.bounds.Bounds.{Bounds}
use Rattle.frame_views.specs.declared.kind.Kind.{Kind}
use Rattle.frame_views.specs.declared.kind.Kind.TheVariants as kind
use Rattle.frame_views.specs.Values.{VoteValue, TallyValue, LogValue, ReplyValue, WordValue, CommitBody, FastCommit, Logged}
use Rattle.frame_views.specs.Values.{CommitValue, BodyValue, Commits, FastAbort, ConflictAbort, CertificateValue}
use Rattle.frame_views.specs.Values.{as_certificate}
use Rattle.frame_views.specs.Values.{ReadValue, CommittedValue, ReadReplyValue}
use Rattle.frame_views.specs.Values.{MessageValue, Read, ReadReply, St1, Vote, St2}
use Rattle.frame_views.specs.Values.{LogReply, Writeback, Recover, Invoke, Elect, Decide}
use Rattle.frame_views.specs.Spelling.{u64_bytes, counted, optional, vote_bytes, tally_bytes, tallies_bytes, log_bytes, reply_bytes}
use Rattle.frame_views.specs.Spelling.{word_bytes, logged_bytes, commit_kind, commit_body_bytes, commit_bytes, conflict_bytes}
use Rattle.frame_views.specs.Spelling.{certificate_kind, body_bytes, certificate_bytes}
use Rattle.frame_views.specs.Spelling.{committed_bytes, read_bytes, read_reply_bytes, signed_bytes, voted_bytes, st2_bytes, log_reply_bytes}
use Rattle.frame_views.specs.Spelling.{writeback_bytes, invoke_bytes, elect_bytes, decide_bytes, message_bytes, kind_of}
use Rattle.frame_views.specs.Fitting.{Within, IsSignature, IsId, AreCounted, FitsPart, is_abort, after_vote}
use Rattle.frame_views.specs.Fitting.{after_tally, after_log, after_reply, after_word}
use Rattle.frame_views.specs.Fitting.{FitsVote, FitsVotes, FitsTally, FitsTallies, FitsLog, FitsReply, FitsWord, FitsLogged, FitsCommitBody}
use Rattle.frame_views.specs.Fitting.{FitsCommit, FitsConflict, FitsBody, FitsCertificate, is_commit}
use Rattle.frame_views.specs.Fitting.{FitsCommitted, FitsRead, FitsReadReply, FitsSigned, FitsVoted, FitsSt2, FitsLogReply, FitsWriteback}
use Rattle.frame_views.specs.Fitting.{FitsInvoke, FitsElect, FitsDecide, FitsMessage}
use Rattle.frame_views.specs.Forms.{◌▹◌, ◌‖◌, made}
use Rattle.frame_views.specs.Grammar.{signature_at, decision_at, number_from_at, next_number_at, vote_at, votes_at}
use Rattle.frame_views.specs.Grammar.{tally_at, tallies_at, log_at, logs_at, reply_at, replies_at, word_at, words_at}
use Rattle.frame_views.specs.Grammar.{logged_at, commit_body_at, commit_at, fast_abort_at, conflict_at, body_at, certificate_at}
use Rattle.frame_views.specs.Grammar.{committed_at, maybe_committed_at, maybe_prepared_at, read_message_at, read_reply_at, signed_at}
use Rattle.frame_views.specs.Grammar.{voted_at, st2_at, log_reply_at, writeback_at, invoke_at, elect_at, decide_at, message_at}
use Rattle.frame_views.proofs.FormLaws.{Lawful, then_law, both, made_takes, made_again, made_law, counted_law}
use Rattle.frame_views.proofs.FieldLaws.{one_byte, byte_law, next_law, decision_text, Any, decision_law, number_law, from_law}
use Rattle.frame_views.proofs.FieldLaws.{id_law, key_law, transaction_law, signature_law, maybe_law}

-- a law of each item is a law of their list
reads_of : {V : Type 0} (one wide : ℕ → List ℕ → Result (V × List ℕ) Fault) (spell : V → List ℕ) (Fit : ℕ → V → Type 0)
    → ((floor : ℕ) → Lawful (one floor) (wide floor) spell (Fit floor)) → Reads one wide spell Fit
reads_of one wide spell Fit laws =
    record {
      takes = λ floor bytes x fits e. (laws floor).takes bytes x fits e;
      again = λ floor v rest fits. (laws floor).again v rest fits;
    }

module _ (b wide : Bounds) (w : Within b wide) where
  -- ---- items

  vote_law : (floor : ℕ) → Lawful (vote_at b floor) (vote_at wide floor) vote_bytes (FitsVote b floor)
  unfolding vote_at
  vote_law floor =
      made_law (λ (x : ℕ × List ℕ). record { replica = x.0; signature = x.1 }) (next_number_at b.replicas floor ‖ signature_at)
      (next_number_at wide.replicas floor ‖ signature_at) _ _ vote_bytes (FitsVote b floor)
      (both (next_law b.replicas wide.replicas floor w.replicas) signature_law)
      (λ a f. refl) (λ a f. record { above = f.0.0; below = f.0.1; signature = f.1 })
      (λ v f. ((v.replica, v.signature), refl, ((f.above, f.below), f.signature)))

  pub reads_votes : Reads (vote_at b) (vote_at wide) vote_bytes (FitsVote b)
  reads_votes = reads_of (vote_at b) (vote_at wide) vote_bytes (FitsVote b) vote_law

  pub votes_law : Lawful (votes_at b) (votes_at wide) (counted vote_bytes) (FitsVotes b)
  unfolding votes_at
  votes_law = counted_law (vote_at b) (vote_at wide) after_vote vote_bytes (FitsVote b) reads_votes

  tally_law : (floor : ℕ) → Lawful (tally_at b floor) (tally_at wide floor) tally_bytes (FitsTally b floor)
  unfolding tally_at
  tally_law floor =
      made_law (λ (x : ℕ × List VoteValue). record { shard = x.0; votes = x.1 }) (next_number_at b.shards floor ‖ votes_at b)
      (next_number_at wide.shards floor ‖ votes_at wide) _ _ tally_bytes (FitsTally b floor)
      (both (next_law b.shards wide.shards floor w.shards) votes_law)
      (λ a f. refl) (λ a f. record { above = f.0.0; below = f.0.1; votes = f.1 })
      (λ v f. ((v.shard, v.votes), refl, ((f.above, f.below), f.votes)))

  pub reads_tallies : Reads (tally_at b) (tally_at wide) tally_bytes (FitsTally b)
  reads_tallies = reads_of (tally_at b) (tally_at wide) tally_bytes (FitsTally b) tally_law

  pub tallies_law : Lawful (tallies_at b) (tallies_at wide) tallies_bytes (FitsTallies b)
  unfolding tallies_at
  tallies_law = counted_law (tally_at b) (tally_at wide) after_tally tally_bytes (FitsTally b) reads_tallies

  log_law : (decided lower : ℕ) → lower ≤ decided → (floor : ℕ)
      → Lawful (log_at b decided floor) (log_at wide lower floor) log_bytes (FitsLog b decided floor)
  unfolding log_at
  log_law decided lower le floor =
      made_law (λ (x : ℕ × (ℕ × List ℕ)). record { replica = x.0; current = x.1.0; signature = x.1.1 })
      (next_number_at b.replicas floor ‖ number_from_at decided ‖ signature_at)
      (next_number_at wide.replicas floor ‖ number_from_at lower ‖ signature_at) _ _ log_bytes (FitsLog b decided floor)
      (both (next_law b.replicas wide.replicas floor w.replicas) (both (from_law decided lower le) signature_law))
      (λ a f. refl) (λ a f. record { above = f.0.0; below = f.0.1; later = f.1.0.0; current = f.1.0.1; signature = f.1.1 })
      (λ v f. ((v.replica, (v.current, v.signature)), refl, ((f.above, f.below), ((f.later, f.current), f.signature))))

  pub reads_logs : (decided lower : ℕ) → lower ≤ decided → Reads (log_at b decided) (log_at wide lower) log_bytes (FitsLog b decided)
  reads_logs decided lower le = reads_of (log_at b decided) (log_at wide lower) log_bytes (FitsLog b decided) (log_law decided lower le)

  pub logs_law : (decided lower : ℕ) → lower ≤ decided → Lawful (logs_at b decided) (logs_at wide lower) (counted log_bytes)
      (AreCounted (FitsLog b decided) after_log)
  unfolding logs_at
  logs_law decided lower le =
      counted_law (log_at b decided) (log_at wide lower) after_log log_bytes (FitsLog b decided) (reads_logs decided lower le)

  reply_law : (floor : ℕ) → Lawful (reply_at b floor) (reply_at wide floor) reply_bytes (FitsReply b floor)
  unfolding reply_at
  reply_law floor =
      made_law (λ (x : ℕ × (Decision × (ℕ × (ℕ × List ℕ)))). record
      { replica = x.0; decision = x.1.0; decided = x.1.1.0; current = x.1.1.1.0; signature = x.1.1.1.1 })
      (next_number_at b.replicas floor ‖ decision_at ‖ (number_at w64 ▹ λ decided. number_from_at decided ‖ signature_at))
      (next_number_at wide.replicas floor ‖ decision_at ‖ (number_at w64 ▹ λ decided. number_from_at decided
      ‖ signature_at)) _ _ reply_bytes (FitsReply b floor)
      (both (next_law b.replicas wide.replicas floor w.replicas) (both decision_law views_law))
      (λ a f. refl) (λ a f. record {
        above = f.0.0;
        below = f.0.1;
        decided = f.1.1.0;
        later = f.1.1.1.0.0;
        current = f.1.1.1.0.1;
        signature = f.1.1.1.1;
      })
      (λ v f. (
        (v.replica, (v.decision, (v.decided, (v.current, v.signature)))),
        refl,
        ((f.above, f.below), (tt, (f.decided, ((f.later, f.current), f.signature)))),
      ))
    where
      views_law : Lawful (number_at w64 ▹ λ decided. number_from_at decided ‖ signature_at)
          (number_at w64 ▹ λ decided. number_from_at decided ‖ signature_at) (λ p. u64_bytes p.0 ++ (u64_bytes p.1.0 ++ long_text p.1.1))
          (λ p. IsU64 p.0 × (((p.0 ≤ p.1.0) × IsU64 p.1.0) × IsSignature p.1.1))
      views_law =
          then_law (number_at w64) (number_at w64) u64_bytes IsU64 (λ decided. number_from_at decided ‖ signature_at)
          (λ decided. number_from_at decided ‖ signature_at) (λ decided p. u64_bytes p.0 ++ long_text p.1)
          (λ decided p. ((decided ≤ p.0) × IsU64 p.0) × IsSignature p.1)
          number_law (λ decided _. both (from_law decided decided (omega arith)) signature_law)

  pub reads_replies : Reads (reply_at b) (reply_at wide) reply_bytes (FitsReply b)
  reads_replies = reads_of (reply_at b) (reply_at wide) reply_bytes (FitsReply b) reply_law

  pub replies_law : Lawful (replies_at b) (replies_at wide) (counted reply_bytes) (AreCounted (FitsReply b) after_reply)
  unfolding replies_at
  replies_law = counted_law (reply_at b) (reply_at wide) after_reply reply_bytes (FitsReply b) reads_replies

  word_law : (floor : ℕ) → Lawful (word_at b floor) (word_at wide floor) word_bytes (FitsWord b floor)
  unfolding word_at
  word_law floor =
      made_law (λ (x : ℕ × (Decision × List ℕ)). record { replica = x.0; decision = x.1.0; signature = x.1.1 })
      (next_number_at b.replicas floor ‖ decision_at ‖ signature_at)
      (next_number_at wide.replicas floor ‖ decision_at ‖ signature_at) _ _ word_bytes (FitsWord b floor)
      (both (next_law b.replicas wide.replicas floor w.replicas) (both decision_law signature_law))
      (λ a f. refl) (λ a f. record { above = f.0.0; below = f.0.1; signature = f.1.1 })
      (λ v f. ((v.replica, (v.decision, v.signature)), refl, ((f.above, f.below), (tt, f.signature))))

  pub reads_words : Reads (word_at b) (word_at wide) word_bytes (FitsWord b)
  reads_words = reads_of (word_at b) (word_at wide) word_bytes (FitsWord b) word_law

  pub words_law : Lawful (words_at b) (words_at wide) (counted word_bytes) (AreCounted (FitsWord b) after_word)
  unfolding words_at
  words_law = counted_law (word_at b) (word_at wide) after_word word_bytes (FitsWord b) reads_words

  -- ---- certificates

  logged_law : Lawful (logged_at b) (logged_at wide) logged_bytes (FitsLogged b)
  unfolding logged_at
  logged_law =
      made_law (λ (x : ℕ × (Decision × (ℕ × List LogValue))). record { shard = x.0; decision = x.1.0; decided = x.1.1.0; logs = x.1.1.1 })
      (between 0 b.shards ‖ decision_at ‖ (number_at w64 ▹ λ decided. logs_at b decided))
      (between 0 wide.shards ‖ decision_at ‖ (number_at w64 ▹ λ decided. logs_at wide decided)) _ _ logged_bytes (FitsLogged b)
      (both (byte_law 0 b.shards wide.shards w.shards) (both decision_law
      (then_law (number_at w64) (number_at w64) u64_bytes IsU64 (logs_at b) (logs_at wide) (λ decided. counted log_bytes)
      (λ decided. AreCounted (FitsLog b decided) after_log) number_law (λ decided _. logs_law decided decided (omega arith)))))
      (λ a f. refl) (λ a f. record { shard = f.0.1; decided = f.1.1.0; logs = f.1.1.1 })
      (λ v f. ((v.shard, (v.decision, (v.decided, v.logs))), refl, ((omega arith, f.shard), (tt, (f.decided, f.logs)))))

  commit_body_law : (k : ℕ) → 1 ≤ k → k < 3 → Lawful (commit_body_at b k) (commit_body_at wide k) commit_body_bytes
      (λ c. (commit_kind c ≡ k) × FitsCommitBody b c)
  unfolding commit_body_at
  commit_body_law k low high = record { takes = λ bytes x fits e. by (eqb k 1) refl bytes x fits e; again = again }
    where
      by : (t : Bool) → eqb k 1 ≡ t → (bytes : List ℕ) (x : CommitBody × List ℕ) → IsBytes bytes
          → cond t (made FastCommit (tallies_at b) bytes) (made Logged (logged_at b) bytes) ≡ Ok x → Takes bytes (commit_body_bytes x.0) x.1
          × ((commit_kind x.0 ≡ k) × FitsCommitBody b x.0)
      by true is bytes x fits e =
          let t = made_takes FastCommit (tallies_at b) (tallies_at wide) tallies_bytes (FitsTallies b) tallies_law bytes x fits e in
          let one : 1 ≡ k = grind (arith, is) in
          subst (λ (v : CommitBody). Takes bytes (commit_body_bytes v) x.1 × ((commit_kind v ≡ k) × FitsCommitBody b v)) t.1
          (t.2, (one, t.3))
      by false is bytes x fits e =
          let t = made_takes Logged (logged_at b) (logged_at wide) logged_bytes (FitsLogged b) logged_law bytes x fits e in
          let two : 2 ≡ k = grind (arith, is) in
          subst (λ (v : CommitBody). Takes bytes (commit_body_bytes v) x.1 × ((commit_kind v ≡ k) × FitsCommitBody b v)) t.1
          (t.2, (two, t.3))

      again : (c : CommitBody) (rest : List ℕ) → ((commit_kind c ≡ k) × FitsCommitBody b c)
          → commit_body_at wide k (commit_body_bytes c ++ rest) ≡ Ok (c, rest)
      again (FastCommit ts) rest f =
          subst (λ (j : ℕ). commit_body_at wide j (tallies_bytes ts ++ rest) ≡ Ok (FastCommit ts, rest)) f.0
          (made_again FastCommit (tallies_at b) (tallies_at wide) tallies_bytes (FitsTallies b) tallies_law ts rest f.1)
      again (Logged l) rest f =
          subst (λ (j : ℕ). commit_body_at wide j (logged_bytes l ++ rest) ≡ Ok (Logged l, rest)) f.0
          (made_again Logged (logged_at b) (logged_at wide) logged_bytes (FitsLogged b) logged_law l rest f.1)

  kind_low : (c : CommitBody) → 1 ≤ commit_kind c
  kind_low (FastCommit ts) = omega arith
  kind_low (Logged l) = omega arith

  kind_high : (c : CommitBody) → commit_kind c < 3
  kind_high (FastCommit ts) = omega arith
  kind_high (Logged l) = omega arith

  pub commit_law : Lawful (commit_at b) (commit_at wide) commit_bytes (FitsCommit b)
  unfolding commit_at
  commit_law =
      made_law (λ (x : ℕ × (List ℕ × CommitBody)). record { id = x.1.0; body = x.1.1 })
      (between 1 3 ▹ λ kind. run_at 32 ‖ commit_body_at b kind)
      (between 1 3 ▹ λ kind. run_at 32 ‖ commit_body_at wide kind) _ _ commit_bytes (FitsCommit b)
      (then_law (between 1 3) (between 1 3) one_byte (λ n. (1 ≤ n) × (n < 3)) (λ kind. run_at 32 ‖ commit_body_at b kind)
      (λ kind. run_at 32 ‖ commit_body_at wide kind) (λ kind p. p.0 ++ commit_body_bytes p.1)
      (λ kind p. IsId p.0 × ((commit_kind p.1 ≡ kind) × FitsCommitBody b p.1))
      (byte_law 1 3 3 (omega arith)) (λ kind f. both id_law (commit_body_law kind f.0 f.1)))
      (λ a f. ap (λ (k : ℕ). k ∷ (a.1.0 ++ commit_body_bytes a.1.1)) f.1.1.0) (λ a f. record { id = f.1.0; body = f.1.1.1 })
      (λ v f. ((commit_kind v.body, (v.id, v.body)), refl, ((kind_low v.body, kind_high v.body), (f.id, (refl, f.body)))))

  fast_abort_law : Lawful (fast_abort_at b) (fast_abort_at wide) tally_bytes (FitsTally b 0)
  unfolding fast_abort_at
  fast_abort_law =
      made_law (λ (x : ℕ × List VoteValue). record { shard = x.0; votes = x.1 }) (between 0 b.shards ‖ votes_at b)
      (between 0 wide.shards ‖ votes_at wide) _ _ tally_bytes (FitsTally b 0)
      (both (byte_law 0 b.shards wide.shards w.shards) votes_law)
      (λ a f. refl) (λ a f. record { above = f.0.0; below = f.0.1; votes = f.1 })
      (λ v f. ((v.shard, v.votes), refl, ((f.above, f.below), f.votes)))

  conflict_law : Lawful (conflict_at b) (conflict_at wide) conflict_bytes (FitsConflict b)
  unfolding conflict_at
  conflict_law =
      made_law (λ (x : ℕ × (ℕ × (List ℕ × (TransactionValue × CommitValue)))). record
      { shard = x.0; replica = x.1.0; signature = x.1.1.0; other = x.1.1.1.0; proof = x.1.1.1.1 })
      (between 0 b.shards ‖ between 0 b.replicas ‖ signature_at ‖ transaction_at ‖ commit_at b)
      (between 0 wide.shards ‖ between 0 wide.replicas ‖ signature_at ‖ transaction_at ‖ commit_at wide) _ _ conflict_bytes
      (FitsConflict b)
      (both (byte_law 0 b.shards wide.shards w.shards) (both (byte_law 0 b.replicas wide.replicas w.replicas)
      (both signature_law (both transaction_law commit_law))))
      (λ a f. refl) (λ a f. record { shard = f.0.1; replica = f.1.0.1; signature = f.1.1.0; other = f.1.1.1.0; proof = f.1.1.1.1 })
      (λ v f. (
        (v.shard, (v.replica, (v.signature, (v.other, v.proof)))),
        refl,
        ((omega arith, f.shard), ((omega arith, f.replica), (f.signature, (f.other, f.proof)))),
      ))

  abbrev FitsKind : ℕ → BodyValue → Type 0
  FitsKind k v = (certificate_kind v ≡ k) × FitsBody b v

  body_law : (k : ℕ) → 1 ≤ k → k < 5 → Lawful (body_at b k) (body_at wide k) body_bytes (FitsKind k)
  unfolding body_at
  body_law k low high = record { takes = λ bytes x fits e. by (ltb k 3) refl bytes x fits e; again = again }
    where
      abort : (t : Bool) → eqb k 3 ≡ t → 3 ≤ k → (bytes : List ℕ) (x : BodyValue × List ℕ) → IsBytes bytes
          → cond t (made FastAbort (fast_abort_at b) bytes) (made ConflictAbort (conflict_at b) bytes) ≡ Ok x
          → Takes bytes (body_bytes x.0) x.1 × FitsKind k x.0
      abort true is le bytes x fits e =
          let t = made_takes FastAbort (fast_abort_at b) (fast_abort_at wide) tally_bytes (FitsTally b 0) fast_abort_law bytes x fits e in
          let three : 3 ≡ k = grind (arith, is) in
          subst (λ (v : BodyValue). Takes bytes (body_bytes v) x.1 × FitsKind k v) t.1 (t.2, (three, t.3))
      abort false is le bytes x fits e =
          let t = made_takes ConflictAbort (conflict_at b) (conflict_at wide) conflict_bytes (FitsConflict b) conflict_law bytes x fits e in
          let four : 4 ≡ k = grind (arith, is) in
          subst (λ (v : BodyValue). Takes bytes (body_bytes v) x.1 × FitsKind k v) t.1 (t.2, (four, t.3))

      by : (t : Bool) → ltb k 3 ≡ t → (bytes : List ℕ) (x : BodyValue × List ℕ) → IsBytes bytes
          → cond t (made Commits (commit_body_at b k) bytes)
          (cond (eqb k 3) (made FastAbort (fast_abort_at b) bytes) (made ConflictAbort (conflict_at b) bytes)) ≡ Ok x
          → Takes bytes (body_bytes x.0) x.1 × FitsKind k x.0
      by true is bytes x fits e =
          let t = made_takes Commits (commit_body_at b k) (commit_body_at wide k) commit_body_bytes
          (λ c. (commit_kind c ≡ k) × FitsCommitBody b c) (commit_body_law k low (ltb-true _ _ is)) bytes x fits e in
          subst (λ (v : BodyValue). Takes bytes (body_bytes v) x.1 × FitsKind k v) t.1 (t.2, t.3)
      by false is bytes x fits e = abort (eqb k 3) refl (ltb-false _ _ is) bytes x fits e

      again : (v : BodyValue) (rest : List ℕ) → FitsKind k v → body_at wide k (body_bytes v ++ rest) ≡ Ok (v, rest)
      again (Commits (FastCommit ts)) rest f =
          subst (λ (j : ℕ). body_at wide j (tallies_bytes ts ++ rest) ≡ Ok (Commits (FastCommit ts), rest)) f.0
          (made_again Commits (commit_body_at b 1) (commit_body_at wide 1) commit_body_bytes
          (λ c. (commit_kind c ≡ 1) × FitsCommitBody b c) (commit_body_law 1 (omega arith) (omega arith)) (FastCommit ts) rest
          (refl, f.1))
      again (Commits (Logged l)) rest f =
          subst (λ (j : ℕ). body_at wide j (logged_bytes l ++ rest) ≡ Ok (Commits (Logged l), rest)) f.0
          (made_again Commits (commit_body_at b 2) (commit_body_at wide 2) commit_body_bytes
          (λ c. (commit_kind c ≡ 2) × FitsCommitBody b c) (commit_body_law 2 (omega arith) (omega arith)) (Logged l) rest (refl, f.1))
      again (FastAbort t) rest f =
          subst (λ (j : ℕ). body_at wide j (tally_bytes t ++ rest) ≡ Ok (FastAbort t, rest)) f.0
          (made_again FastAbort (fast_abort_at b) (fast_abort_at wide) tally_bytes (FitsTally b 0) fast_abort_law t rest f.1)
      again (ConflictAbort c) rest f =
          subst (λ (j : ℕ). body_at wide j (conflict_bytes c ++ rest) ≡ Ok (ConflictAbort c, rest)) f.0
          (made_again ConflictAbort (conflict_at b) (conflict_at wide) conflict_bytes (FitsConflict b) conflict_law c rest f.1)

  body_low : (v : BodyValue) → 1 ≤ certificate_kind v
  body_low (Commits c) = kind_low c
  body_low (FastAbort t) = omega arith
  body_low (ConflictAbort c) = omega arith

  body_high : (v : BodyValue) → certificate_kind v < 5
  body_high (Commits c) = omega (arith, kind_high c)
  body_high (FastAbort t) = omega arith
  body_high (ConflictAbort c) = omega arith

  pub certificate_law : Lawful (certificate_at b) (certificate_at wide) certificate_bytes (FitsCertificate b)
  unfolding certificate_at
  certificate_law =
      made_law (λ (x : ℕ × (List ℕ × BodyValue)). record { id = x.1.0; body = x.1.1 }) (between 1 5 ▹ λ kind. run_at 32 ‖ body_at b kind)
      (between 1 5 ▹ λ kind. run_at 32 ‖ body_at wide kind) _ _ certificate_bytes (FitsCertificate b)
      (then_law (between 1 5) (between 1 5) one_byte (λ n. (1 ≤ n) × (n < 5)) (λ kind. run_at 32 ‖ body_at b kind)
      (λ kind. run_at 32 ‖ body_at wide kind) (λ kind p. p.0 ++ body_bytes p.1) (λ kind p. IsId p.0 × FitsKind kind p.1)
      (byte_law 1 5 5 (omega arith)) (λ kind f. both id_law (body_law kind f.0 f.1)))
      (λ a f. ap (λ (k : ℕ). k ∷ (a.1.0 ++ body_bytes a.1.1)) f.1.1.0) (λ a f. record { id = f.1.0; body = f.1.1.1 })
      (λ v f. ((certificate_kind v.body, (v.id, v.body)), refl, ((body_low v.body, body_high v.body), (f.id, (refl, f.body)))))

  -- ---- messages

  commit_back : (id : List ℕ) (body : BodyValue) → is_commit body ≡ true → IsId id → FitsBody b body → (c : CommitValue)
      × (as_certificate c ≡ record { id = id; body = body }) × FitsCommit b c
  commit_back id (Commits body) is fits-id fits = (record { id = id; body = body }, refl, record { id = fits-id; body = fits })
  commit_back id (FastAbort t) is fits-id fits = absurd cc
  commit_back id (ConflictAbort c) is fits-id fits = absurd cc

  committed_law : Lawful (committed_at b) (committed_at wide) committed_bytes (FitsCommitted b)
  unfolding committed_at
  committed_law =
      made_law (λ (x : TransactionValue × CommitValue). record { transaction = x.0; certificate = as_certificate x.1 })
      (transaction_at ‖ commit_at b) (transaction_at ‖ commit_at wide) _ _ committed_bytes (FitsCommitted b)
      (both transaction_law commit_law)
      (λ a f. refl) (λ a f. record { transaction = f.0; certificate = record { id = f.1.id; body = f.1.body }; commits = refl })
      (λ v f.
      let c = commit_back v.certificate.id v.certificate.body f.commits f.certificate.id f.certificate.body in
      let made-of : TransactionValue × CommitValue → CommittedValue = λ x. record { transaction = x.0; certificate = as_certificate x.1 } in
      let is : made-of (v.transaction, c.0) ≡ v = ap (λ (z : CertificateValue). record
      { transaction = v.transaction; certificate = z }) c.1 in
      ((v.transaction, c.0), is, (f.transaction, c.2)))

  maybe_committed_law : (allowed : Bool) → Lawful (maybe_committed_at b allowed) (maybe_committed_at wide allowed)
      (optional committed_bytes) (FitsPart allowed (FitsCommitted b))
  unfolding maybe_committed_at
  maybe_committed_law allowed = maybe_law allowed (committed_at b) (committed_at wide) committed_bytes (FitsCommitted b) committed_law

  maybe_prepared_law : Lawful maybe_prepared_at maybe_prepared_at (optional canonical) (FitsPart true IsTransaction)
  unfolding maybe_prepared_at
  maybe_prepared_law = maybe_law true transaction_at transaction_at canonical IsTransaction transaction_law

  read_message_law : Lawful read_message_at read_message_at read_bytes FitsRead
  unfolding read_message_at
  read_message_law =
      made_law (λ (x : List ℕ × (ℕ × ℕ)). record { key = x.0; time = x.1.0; client = x.1.1 }) (key_at ‖ number_at w64 ‖ between 1 17)
      (key_at ‖ number_at w64 ‖ between 1 17) _ _ read_bytes FitsRead
      (both key_law (both number_law (byte_law 1 17 17 (omega arith))))
      (λ a f. refl) (λ a f. record { key = f.0; time = f.1.0; client = record { someone = f.1.1.0; few = omega (arith, f.1.1.1) } })
      (λ v f. ((v.key, (v.time, v.client)), refl, (f.key, (f.time, (f.client.someone, omega (arith, f.client.few))))))

  abbrev reply_from : ℕ × (ℕ × (ReadValue × (Option CommittedValue × (Option TransactionValue × List ℕ)))) → ReadReplyValue
  reply_from x =
      record {
        shard = x.0;
        replica = x.1.0;
        key = x.1.1.0.key;
        time = x.1.1.0.time;
        client = x.1.1.0.client;
        committed = x.1.1.1.0;
        prepared = x.1.1.1.1.0;
        signature = x.1.1.1.1.1;
      }

  read_of : ReadReplyValue → ReadValue
  read_of v = record { key = v.key; time = v.time; client = v.client }

  read_reply_law : Lawful (read_reply_at b) (read_reply_at wide) read_reply_bytes (FitsReadReply b)
  unfolding read_reply_at
  read_reply_law =
      made_law reply_from
      (between 0 b.shards ‖ between 0 b.replicas ‖ read_message_at ‖ maybe_committed_at b true ‖ maybe_prepared_at ‖ signature_at)
      (between 0 wide.shards ‖ between 0 wide.replicas ‖ read_message_at ‖ maybe_committed_at wide true ‖ maybe_prepared_at
      ‖ signature_at) _ _ read_reply_bytes (FitsReadReply b)
      (both (byte_law 0 b.shards wide.shards w.shards) (both (byte_law 0 b.replicas wide.replicas w.replicas)
      (both read_message_law (both (maybe_committed_law true) (both maybe_prepared_law signature_law)))))
      (λ a f. ap (λ (z : List ℕ). a.0 ∷ a.1.0 ∷ z) (regroup (short_text a.1.1.0.key) (u64_bytes a.1.1.0.time) (a.1.1.0.client ∷ [])
      (optional committed_bytes a.1.1.1.0 ++ (optional canonical a.1.1.1.1.0 ++ long_text a.1.1.1.1.1))))
      (λ a f. record {
        shard = f.0.1;
        replica = f.1.0.1;
        key = f.1.1.0.key;
        time = f.1.1.0.time;
        client = f.1.1.0.client;
        committed = f.1.1.1.0;
        prepared = f.1.1.1.1.0;
        signature = f.1.1.1.1.1;
      })
      (λ v f. (
        (v.shard, (v.replica, (record { key = v.key; time = v.time; client = v.client }, (v.committed, (v.prepared, v.signature))))),
        refl,
        (
          (omega arith, f.shard),
          (
            (omega arith, f.replica),
            (
              record { key = f.key; time = f.time; client = f.client },
              (
                f.committed,
                (f.prepared, f.signature),
              ),
            ),
          ),
        ),
      ))
    where
      regroup : (x y z rest : List ℕ) → x ++ (y ++ (z ++ rest)) ≡ (x ++ (y ++ z)) ++ rest
      regroup x y z rest = simp append_assoc

  signed_law : Lawful signed_at signed_at signed_bytes FitsSigned
  unfolding signed_at
  signed_law =
      made_law (λ (x : TransactionValue × List ℕ). record { transaction = x.0; signature = x.1 }) (transaction_at ‖ signature_at)
      (transaction_at ‖ signature_at) _ _ signed_bytes FitsSigned
      (both transaction_law signature_law)
      (λ a f. refl) (λ a f. record { transaction = f.0; signature = f.1 })
      (λ v f. ((v.transaction, v.signature), refl, (f.transaction, f.signature)))

  voted_law : Lawful (voted_at b) (voted_at wide) voted_bytes (FitsVoted b)
  unfolding voted_at
  voted_law =
      made_law (λ (x : ℕ × (ℕ × (List ℕ × (Decision × (Option CommittedValue × List ℕ))))). record
      { shard = x.0; replica = x.1.0; id = x.1.1.0; decision = x.1.1.1.0; proof = x.1.1.1.1.0; signature = x.1.1.1.1.1 })
      (between 0 b.shards ‖ between 0 b.replicas ‖ run_at 32
      ‖ (decision_at ▹ λ decision. maybe_committed_at b (is_abort decision) ‖ signature_at))
      (between 0 wide.shards ‖ between 0 wide.replicas ‖ run_at 32
      ‖ (decision_at ▹ λ decision. maybe_committed_at wide (is_abort decision) ‖ signature_at)) _ _ voted_bytes (FitsVoted b)
      (both (byte_law 0 b.shards wide.shards w.shards) (both (byte_law 0 b.replicas wide.replicas w.replicas) (both id_law
      (then_law decision_at decision_at decision_text Any (λ decision. maybe_committed_at b (is_abort decision) ‖ signature_at)
      (λ decision. maybe_committed_at wide (is_abort decision) ‖ signature_at)
      (λ decision p. optional committed_bytes p.0 ++ long_text p.1)
      (λ decision p. FitsPart (is_abort decision) (FitsCommitted b) p.0 × IsSignature p.1) decision_law
      (λ decision _. both (maybe_committed_law (is_abort decision)) signature_law)))))
      (λ a f. refl) (λ a f. record { shard = f.0.1; replica = f.1.0.1; id = f.1.1.0; proof = f.1.1.1.1.0; signature = f.1.1.1.1.1 })
      (λ v f. (
        (v.shard, (v.replica, (v.id, (v.decision, (v.proof, v.signature))))),
        refl,
        ((omega arith, f.shard), ((omega arith, f.replica), (f.id, (tt, (f.proof, f.signature))))),
      ))

  st2_law : Lawful (st2_at b) (st2_at wide) st2_bytes (FitsSt2 b)
  unfolding st2_at
  st2_law =
      made_law (λ (x : TransactionValue × (List ℕ × (Decision × List TallyValue))). record
      { transaction = x.0; signature = x.1.0; decision = x.1.1.0; tallies = x.1.1.1 })
      (transaction_at ‖ signature_at ‖ decision_at ‖ tallies_at b)
      (transaction_at ‖ signature_at ‖ decision_at ‖ tallies_at wide) _ _ st2_bytes (FitsSt2 b)
      (both transaction_law (both signature_law (both decision_law tallies_law)))
      (λ a f. refl) (λ a f. record { transaction = f.0; signature = f.1.0; tallies = f.1.1.1 })
      (λ v f. ((v.transaction, (v.signature, (v.decision, v.tallies))), refl, (f.transaction, (f.signature, (tt, f.tallies)))))

  log_reply_law : Lawful (log_reply_at b) (log_reply_at wide) log_reply_bytes (FitsLogReply b)
  unfolding log_reply_at
  log_reply_law =
      made_law (λ (x : ℕ × (ℕ × (List ℕ × (Decision × (ℕ × (ℕ × List ℕ)))))). record {
        shard = x.0;
        replica = x.1.0;
        id = x.1.1.0;
        decision = x.1.1.1.0;
        decided = x.1.1.1.1.0;
        current = x.1.1.1.1.1.0;
        signature = x.1.1.1.1.1.1;
      })
      (between 0 b.shards ‖ between 0 b.replicas ‖ run_at 32 ‖ decision_at
      ‖ (number_at w64 ▹ λ decided. number_from_at decided ‖ signature_at))
      (between 0 wide.shards ‖ between 0 wide.replicas ‖ run_at 32 ‖ decision_at
      ‖ (number_at w64 ▹ λ decided. number_from_at decided ‖ signature_at)) _ _ log_reply_bytes (FitsLogReply b)
      (both (byte_law 0 b.shards wide.shards w.shards) (both (byte_law 0 b.replicas wide.replicas w.replicas)
      (both id_law (both decision_law
      (then_law (number_at w64) (number_at w64) u64_bytes IsU64 (λ decided. number_from_at decided ‖ signature_at)
      (λ decided. number_from_at decided ‖ signature_at) (λ decided p. u64_bytes p.0 ++ long_text p.1)
      (λ decided p. ((decided ≤ p.0) × IsU64 p.0) × IsSignature p.1)
      number_law (λ decided _. both (from_law decided decided (omega arith)) signature_law))))))
      (λ a f. refl) (λ a f. record {
        shard = f.0.1;
        replica = f.1.0.1;
        id = f.1.1.0;
        decided = f.1.1.1.1.0;
        later = f.1.1.1.1.1.0.0;
        current = f.1.1.1.1.1.0.1;
        signature = f.1.1.1.1.1.1;
      })
      (λ v f. (
        (v.shard, (v.replica, (v.id, (v.decision, (v.decided, (v.current, v.signature)))))),
        refl,
        ((omega arith, f.shard), ((omega arith, f.replica), (f.id, (tt, (f.decided, ((f.later, f.current), f.signature)))))),
      ))

  writeback_law : Lawful (writeback_at b) (writeback_at wide) writeback_bytes (FitsWriteback b)
  unfolding writeback_at
  writeback_law =
      made_law (λ (x : TransactionValue × CertificateValue). record { transaction = x.0; certificate = x.1 })
      (transaction_at ‖ certificate_at b) (transaction_at ‖ certificate_at wide) _ _ writeback_bytes (FitsWriteback b)
      (both transaction_law certificate_law)
      (λ a f. refl) (λ a f. record { transaction = f.0; certificate = f.1 })
      (λ v f. ((v.transaction, v.certificate), refl, (f.transaction, f.certificate)))

  invoke_law : Lawful (invoke_at b) (invoke_at wide) invoke_bytes (FitsInvoke b)
  unfolding invoke_at
  invoke_law =
      made_law (λ (x : List ℕ × (ℕ × List ReplyValue)). record { id = x.0; shard = x.1.0; replies = x.1.1 })
      (run_at 32 ‖ between 0 b.shards ‖ replies_at b) (run_at 32 ‖ between 0 wide.shards ‖ replies_at wide) _ _ invoke_bytes
      (FitsInvoke b)
      (both id_law (both (byte_law 0 b.shards wide.shards w.shards) replies_law))
      (λ a f. refl) (λ a f. record { id = f.0; shard = f.1.0.1; replies = f.1.1 })
      (λ v f. ((v.id, (v.shard, v.replies)), refl, (f.id, ((omega arith, f.shard), f.replies))))

  elect_law : Lawful (elect_at b) (elect_at wide) elect_bytes (FitsElect b)
  unfolding elect_at
  elect_law =
      made_law (λ (x : TransactionValue × (ℕ × (ℕ × (Decision × (ℕ × List ℕ))))). record
      { transaction = x.0; shard = x.1.0; replica = x.1.1.0; decision = x.1.1.1.0; view = x.1.1.1.1.0; signature = x.1.1.1.1.1 })
      (transaction_at ‖ between 0 b.shards ‖ between 0 b.replicas ‖ decision_at ‖ number_from_at 1 ‖ signature_at)
      (transaction_at ‖ between 0 wide.shards ‖ between 0 wide.replicas ‖ decision_at ‖ number_from_at 1 ‖ signature_at) _ _ elect_bytes
      (FitsElect b)
      (both transaction_law (both (byte_law 0 b.shards wide.shards w.shards)
      (both (byte_law 0 b.replicas wide.replicas w.replicas) (both decision_law (both (from_law 1 1 (omega arith)) signature_law)))))
      (λ a f. refl) (λ a f. record {
        transaction = f.0;
        shard = f.1.0.1;
        replica = f.1.1.0.1;
        some = f.1.1.1.1.0.0;
        view = f.1.1.1.1.0.1;
        signature = f.1.1.1.1.1;
      })
      (λ v f. (
        (v.transaction, (v.shard, (v.replica, (v.decision, (v.view, v.signature))))),
        refl,
        (f.transaction, ((omega arith, f.shard), ((omega arith, f.replica), (tt, ((f.some, f.view), f.signature))))),
      ))

  decide_law : Lawful (decide_at b) (decide_at wide) decide_bytes (FitsDecide b)
  unfolding decide_at
  decide_law =
      made_law (λ (x : TransactionValue × (ℕ × (ℕ × (Decision × (ℕ × (List WordValue × List ℕ)))))). record {
        transaction = x.0;
        shard = x.1.0;
        replica = x.1.1.0;
        decision = x.1.1.1.0;
        view = x.1.1.1.1.0;
        words = x.1.1.1.1.1.0;
        signature = x.1.1.1.1.1.1;
      })
      (transaction_at ‖ between 0 b.shards ‖ between 0 b.replicas ‖ decision_at ‖ number_from_at 1 ‖ words_at b ‖ signature_at)
      (transaction_at ‖ between 0 wide.shards ‖ between 0 wide.replicas ‖ decision_at ‖ number_from_at 1 ‖ words_at wide
      ‖ signature_at) _ _ decide_bytes (FitsDecide b)
      (both transaction_law (both (byte_law 0 b.shards wide.shards w.shards)
      (both (byte_law 0 b.replicas wide.replicas w.replicas)
      (both decision_law (both (from_law 1 1 (omega arith)) (both words_law signature_law))))))
      (λ a f. refl) (λ a f. record {
        transaction = f.0;
        shard = f.1.0.1;
        replica = f.1.1.0.1;
        some = f.1.1.1.1.0.0;
        view = f.1.1.1.1.0.1;
        words = f.1.1.1.1.1.0;
        signature = f.1.1.1.1.1.1;
      })
      (λ v f. (
        (v.transaction, (v.shard, (v.replica, (v.decision, (v.view, (v.words, v.signature)))))),
        refl,
        (f.transaction, ((omega arith, f.shard), ((omega arith, f.replica), (tt, ((f.some, f.view), (f.words, f.signature)))))),
      ))

  -- ---- by kinds

  module _ {A : Type 0} (of : A → MessageValue) (one with-wide : List ℕ → Result (A × List ℕ) Fault) (spell : A → List ℕ)
      (Fit : A → Type 0) (k : Kind) (law : Lawful one with-wide spell Fit)
      (same : (a : A) → message_bytes (of a) ≡ spell a) (fit : (a : A) → Fit a → FitsMessage b (of a))
      (kind-is : (a : A) → kind_of (of a) ≡ k) where
    kind_takes : (bytes : List ℕ) (x : MessageValue × List ℕ) → IsBytes bytes → made of one bytes ≡ Ok x
        → Takes bytes (message_bytes x.0) x.1 × FitsMessage b x.0 × (kind_of x.0 ≡ k)
    kind_takes bytes x fits e =
        let t = made_takes of one with-wide spell Fit law bytes x fits e in
        subst (λ (v : MessageValue). Takes bytes (message_bytes v) x.1 × FitsMessage b v × (kind_of v ≡ k)) t.1
        (subst (λ (z : List ℕ). Takes bytes z x.1) (sym (same t.0)) t.2, fit t.0 t.3, kind-is t.0)

  pub message_takes : (k : Kind) (bytes : List ℕ) (x : MessageValue × List ℕ) → IsBytes bytes → message_at b k bytes ≡ Ok x
      → Takes bytes (message_bytes x.0) x.1 × FitsMessage b x.0 × (kind_of x.0 ≡ k)
  unfolding message_at
  message_takes kind.Read bytes x fits e =
      kind_takes Read read_message_at read_message_at read_bytes FitsRead kind.Read read_message_law (λ a. refl) (λ a f. f)
      (λ a. refl) bytes x fits e
  message_takes kind.ReadReply bytes x fits e =
      kind_takes ReadReply (read_reply_at b) (read_reply_at wide) read_reply_bytes (FitsReadReply b) kind.ReadReply read_reply_law
      (λ a. refl) (λ a f. f) (λ a. refl) bytes x fits e
  message_takes kind.St1 bytes x fits e =
      kind_takes St1 signed_at signed_at signed_bytes FitsSigned kind.St1 signed_law (λ a. refl) (λ a f. f) (λ a. refl) bytes x fits e
  message_takes kind.Vote bytes x fits e =
      kind_takes Vote (voted_at b) (voted_at wide) voted_bytes (FitsVoted b) kind.Vote voted_law (λ a. refl) (λ a f. f)
      (λ a. refl) bytes x fits e
  message_takes kind.St2 bytes x fits e =
      kind_takes St2 (st2_at b) (st2_at wide) st2_bytes (FitsSt2 b) kind.St2 st2_law (λ a. refl) (λ a f. f) (λ a. refl) bytes x fits e
  message_takes kind.LogReply bytes x fits e =
      kind_takes LogReply (log_reply_at b) (log_reply_at wide) log_reply_bytes (FitsLogReply b) kind.LogReply log_reply_law (λ a. refl)
      (λ a f. f) (λ a. refl) bytes x fits e
  message_takes kind.Writeback bytes x fits e =
      kind_takes Writeback (writeback_at b) (writeback_at wide) writeback_bytes (FitsWriteback b) kind.Writeback writeback_law (λ a. refl)
      (λ a f. f) (λ a. refl) bytes x fits e
  message_takes kind.Recover bytes x fits e =
      kind_takes Recover signed_at signed_at signed_bytes FitsSigned kind.Recover signed_law (λ a. refl) (λ a f. f)
      (λ a. refl) bytes x fits e
  message_takes kind.Invoke bytes x fits e =
      kind_takes Invoke (invoke_at b) (invoke_at wide) invoke_bytes (FitsInvoke b) kind.Invoke invoke_law (λ a. refl) (λ a f. f)
      (λ a. refl) bytes x fits e
  message_takes kind.Elect bytes x fits e =
      kind_takes Elect (elect_at b) (elect_at wide) elect_bytes (FitsElect b) kind.Elect elect_law (λ a. refl) (λ a f. f)
      (λ a. refl) bytes x fits e
  message_takes kind.Decide bytes x fits e =
      kind_takes Decide (decide_at b) (decide_at wide) decide_bytes (FitsDecide b) kind.Decide decide_law (λ a. refl) (λ a f. f)
      (λ a. refl) bytes x fits e

  pub message_again : (m : MessageValue) (rest : List ℕ) → FitsMessage b m
      → message_at wide (kind_of m) (message_bytes m ++ rest) ≡ Ok (m, rest)
  unfolding message_at
  message_again (Read m) rest fits = made_again Read read_message_at read_message_at read_bytes FitsRead read_message_law m rest fits
  message_again (ReadReply m) rest fits = made_again ReadReply (read_reply_at b) (read_reply_at wide) read_reply_bytes
      (FitsReadReply b) read_reply_law m rest fits
  message_again (St1 m) rest fits = made_again St1 signed_at signed_at signed_bytes FitsSigned signed_law m rest fits
  message_again (Vote m) rest fits = made_again Vote (voted_at b) (voted_at wide) voted_bytes (FitsVoted b) voted_law m rest fits
  message_again (St2 m) rest fits = made_again St2 (st2_at b) (st2_at wide) st2_bytes (FitsSt2 b) st2_law m rest fits
  message_again (LogReply m) rest fits = made_again LogReply (log_reply_at b) (log_reply_at wide) log_reply_bytes
      (FitsLogReply b) log_reply_law m rest fits
  message_again (Writeback m) rest fits = made_again Writeback (writeback_at b) (writeback_at wide) writeback_bytes
      (FitsWriteback b) writeback_law m rest fits
  message_again (Recover m) rest fits = made_again Recover signed_at signed_at signed_bytes FitsSigned signed_law m rest fits
  message_again (Invoke m) rest fits = made_again Invoke (invoke_at b) (invoke_at wide) invoke_bytes (FitsInvoke b) invoke_law m rest fits
  message_again (Elect m) rest fits = made_again Elect (elect_at b) (elect_at wide) elect_bytes (FitsElect b) elect_law m rest fits
  message_again (Decide m) rest fits = made_again Decide (decide_at b) (decide_at wide) decide_bytes (FitsDecide b) decide_law m rest fits
