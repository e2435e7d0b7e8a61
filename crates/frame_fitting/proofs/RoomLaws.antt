-- Room is left exactly behind what fits and isn't longer than the room.
use Rattle.std.proofs.Common.{◌≡◌, ℕ, ◌+◌, ◌-◌, ◌<◌, ◌≤◌, ◌^◌, Bool, true, false, cond, leb, ltb, eqb, List, []}
use Rattle.std.proofs.Common.{◌∷◌, ◌++◌, length, Option, Some, None, refl, sym, ap, ◌∙◌, length-append, arith}
use Rattle.std.specs.Prelude.{◌&&◌, ◌↔◌, option_and_then, ⊤, IsTrue, is_some, OnSome}
use Rattle.std.specs.List.{flat_map}
use Rattle.std.proofs.lemmas.Bool.{le-leb, leb-true, lt-ltb, ltb-true, eqb-true}
use Rattle.basil_types.specs.Limits.{signature_limit, IsU64}
use Rattle.basil_types.specs.Lists.{AreItems}
use Rattle.basil_types.specs.Texts.{IsBytes, IsKey}
use Rattle.basil_types.specs.Transaction.{TransactionValue, IsTransaction, canonical, short_text, long_text}
use Rattle.basil_types.specs.Words.{decision_byte}
use Rattle.frame_views.specs.declared.bounds.Bounds.{Bounds}
use Rattle.frame_views.specs.Values.{VoteValue, TallyValue, LogValue, ReplyValue, WordValue, LoggedValue}
use Rattle.frame_views.specs.Values.{CommitBody, FastCommit, Logged, CommitValue, ConflictValue, BodyValue}
use Rattle.frame_views.specs.Values.{Commits, FastAbort, ConflictAbort, CertificateValue, CommittedValue}
use Rattle.frame_views.specs.Values.{SignedValue, MessageValue, Read, ReadReply, St1, Vote}
use Rattle.frame_views.specs.Values.{St2, LogReply, Writeback, Recover, Invoke, Elect, Decide}
use Rattle.frame_views.specs.Spelling.{u64_bytes, counted, optional, vote_bytes, tally_bytes, tallies_bytes, log_bytes}
use Rattle.frame_views.specs.Spelling.{reply_bytes, word_bytes, logged_bytes, commit_body_bytes, commit_bytes, conflict_bytes}
use Rattle.frame_views.specs.Spelling.{body_bytes, certificate_bytes, committed_bytes, signed_bytes, message_bytes, spelling}
use Rattle.frame_views.specs.Fitting.{IsSignature, IsId, IsClient, AreCounted, FitsPart, is_abort}
use Rattle.frame_views.specs.Fitting.{is_commit, after_vote, after_tally, after_log, after_reply, after_word}
use Rattle.frame_views.specs.Fitting.{FitsVote, FitsVotes, FitsTally, FitsTallies, FitsLog, FitsReply, FitsWord}
use Rattle.frame_views.specs.Fitting.{FitsLogged, FitsCommitBody, FitsCommit, FitsConflict, FitsBody}
use Rattle.frame_views.specs.Fitting.{FitsCertificate, FitsCommitted, FitsSigned, FitsMessage}
use Rattle.frame_views.specs.Frames.{frame_limit}
use Rattle.frame_fitting.specs.Known.{Known, KnownBody, KnownCommitted, KnownPrepared}
use Rattle.frame_fitting.specs.Room.{◌⨾◌, guarded, spent, items_room, counted_room, part_room, number_room, long_room, id_room}
use Rattle.frame_fitting.specs.Room.{signature_room, key_room, client_room, transaction_room, vote_room, votes_room, tally_room}
use Rattle.frame_fitting.specs.Room.{tallies_room, log_room, logs_room, reply_room, replies_room, word_room, words_room}
use Rattle.frame_fitting.specs.Room.{logged_room, commit_body_room, commit_room, conflict_vote_room, conflict_room}
use Rattle.frame_fitting.specs.Room.{body_room, certificate_room, committed_room, place_room, read_room}
use Rattle.frame_fitting.specs.Room.{read_reply_room, signed_room, voted_room, st2_room, log_reply_room}
use Rattle.frame_fitting.specs.Room.{writeback_room, invoke_room, elect_room, decide_room, body_left, message_room}

-- a step takes so many bytes of the room, exactly where this holds and they are there
pub record Takes (step : ℕ → Option ℕ) (Holds : Type 0) (count : ℕ) : Type 0 where
  pub some : (room left : ℕ) → step room ≡ Some left → Holds × (left + count ≡ room)
  pub again : (room : ℕ) → Holds → count ≤ room → step room ≡ Some (room - count)

-- ---- forms

some-is : (a b : ℕ) → Some a ≡ Some b → a ≡ b
some-is a b e = cc

pub spent_takes : (count : ℕ) → Takes (spent count) ⊤ count
unfolding spent
spent_takes count =
    record { some = λ room left e. (tt, by room left (leb count room) refl e); again = λ room _ enough. rw (le-leb count room enough) refl }
  where
    by : (room left : ℕ) (t : Bool) → leb count room ≡ t → cond t (Some (room - count)) None ≡ Some left → left + count ≡ room
    by room left true is e = (let enough = leb-true _ _ is in let l = some-is _ _ e in omega arith)
    by room left false is e = absurd cc

pub guarded_takes : (test : Bool) (Holds : Type 0) (step : ℕ → Option ℕ) (Then : Type 0) (count : ℕ) →
    (test ≡ true → Holds) → (Holds → test ≡ true) → Takes step Then count → Takes (guarded test step) (Holds × Then) count
guarded_takes test Holds step Then count to back takes =
    record { some = λ room left e. by room left test refl e; again = λ room h enough. rw (back h.0) (takes.again room h.1 enough) }
  where
    by : (room left : ℕ) (t : Bool) → test ≡ t → cond t (step room) None ≡ Some left → (Holds × Then) × (left + count ≡ room)
    by room left true is e = (let r = takes.some room left e in ((to is, r.0), r.1))
    by room left false is e = absurd cc

pub behind : {first second : ℕ → Option ℕ} {Holds Then : Type 0} {count more : ℕ} →
    Takes first Holds count → Takes second Then more → Takes (first ⨾ second) (Holds × Then) (count + more)
behind {first} {second} {Holds} {Then} {count} {more} one two =
    record { some = λ room left e. by room left (first room) refl e; again = again }
  where
    by : (room left : ℕ) (o : Option ℕ) →
        first room ≡ o → option_and_then second o ≡ Some left → (Holds × Then) × (left + (count + more) ≡ room)
    by room left (Some middle) is e =
        (let a = one.some room middle is in
        let b = two.some middle left e in
        ((a.0, b.0), omega (arith, a.1, b.1)))
    by room left None is e = absurd cc

    again : (room : ℕ) → Holds × Then → count + more ≤ room → (first ⨾ second) room ≡ Some (room - (count + more))
    again room h enough =
        let a = one.again room h.0 (omega arith) in
        let b = two.again (room - count) h.1 (omega arith) in
        ap (option_and_then second) a ∙ b ∙ ap (λ (n : ℕ). Some n) (omega arith)

pub same-as : {step : ℕ → Option ℕ} {Holds Same : Type 0} {count same : ℕ} →
    Takes step Holds count → (Holds → Same) → (Same → Holds) → count ≡ same → Takes step Same same
same-as {step} {Holds} {Same} {count} {same} takes to back e = record {
  some = λ room left is. (let r = takes.some room left is in (to r.0, omega (arith, r.1)));
  again = λ room h enough. takes.again room (back h) (omega arith) ∙ ap (λ (n : ℕ). Some (room - n)) e;
}

pub same-where : {step : ℕ → Option ℕ} {Holds Same : Type 0} {count same : ℕ} →
    Takes step Holds count → (Holds → Same) → (Same → Holds) → (Same → count ≡ same) → Takes step Same same
same-where {step} {Holds} {Same} {count} {same} takes to back e = record {
  some = λ room left is. (let r = takes.some room left is in (to r.0, omega (arith, r.1, e (to r.0))));
  again = λ room h enough. (let same-count = e h in takes.again room (back h) (omega arith) ∙ ap (λ (n : ℕ). Some (room - n)) same-count);
}

-- ---- fields

u64-length : (n : ℕ) → length (u64_bytes n) ≡ 8
unfolding u64_bytes
u64-length n = refl

both-true : (a b : Bool) → (a && b) ≡ true → (a ≡ true) × (b ≡ true)
both-true true b e = (refl, e)
both-true false b e = absurd cc

true-both : (a b : Bool) → a ≡ true → b ≡ true → (a && b) ≡ true
true-both a b e h = rw e h

tested : (test : Bool) (Holds : Type 0) (count : ℕ) →
    (test ≡ true → Holds) → (Holds → test ≡ true) → Takes (guarded test (spent count)) Holds count
tested test Holds count to back =
    same-as (guarded_takes test Holds (spent count) ⊤ count to back (spent_takes count)) (λ h. h.0) (λ h. (h, tt)) refl

number_takes : (high floor n : ℕ) → Takes (number_room high floor n) ((floor ≤ n) × (n < high)) 1
unfolding number_room
number_takes high floor n = tested (leb floor n && ltb n high) ((floor ≤ n) × (n < high)) 1
    (λ e. (let t = both-true _ _ e in (leb-true _ _ t.0, ltb-true _ _ t.1))) (λ h. true-both _ _ (le-leb floor n h.0) (lt-ltb n high h.1))

long_takes : (low n : ℕ) → Takes (long_room low n) ((low ≤ n) × IsU64 n) 8
unfolding long_room
long_takes low n = tested (leb low n && ltb n (2 ^ 64)) ((low ≤ n) × IsU64 n) 8
    (λ e. (let t = both-true _ _ e in (leb-true _ _ t.0, ltb-true _ _ t.1))) (λ h. true-both _ _ (le-leb low n h.0) (lt-ltb n (2 ^ 64) h.1))

id_takes : (id : List ℕ) → Takes (id_room id) (IsId id) 32
unfolding id_room
id_takes id = tested (eqb (length id) 32) (IsId id) 32 (λ e. eqb-true _ _ e) (λ (h : length id ≡ 32). rw h refl)

signature_takes : (s : List ℕ) → Takes (signature_room s) (IsSignature s) (length s + 2)
unfolding signature_room
signature_takes s = tested (leb 1 (length s) && leb (length s) signature_limit)
    (IsSignature s) (length s + 2) (λ e. (let t = both-true _ _ e in record { some = leb-true _ _ t.0; short = leb-true _ _ t.1 }))
    (λ h. true-both _ _ (le-leb 1 (length s) h.some) (le-leb (length s) signature_limit h.short))

key_takes : (k : List ℕ) → IsBytes k → Takes (key_room k) (IsKey k) (length k + 1)
unfolding key_room
key_takes k bytes = tested (leb 1 (length k) && leb (length k) 64)
    (IsKey k) (length k + 1) (λ e. (let t = both-true _ _ e in record { some = leb-true _ _ t.0; short = leb-true _ _ t.1; bytes = bytes }))
    (λ h. true-both _ _ (le-leb 1 (length k) h.some) (le-leb (length k) 64 h.short))

client_takes : (c : ℕ) → Takes (client_room c) (IsClient c) 1
unfolding client_room
client_takes c = tested (leb 1 c && leb c 16) (IsClient c) 1 (λ e. (let t = both-true _ _ e in
    record { someone = leb-true _ _ t.0; few = leb-true _ _ t.1 })) (λ h. true-both _ _ (le-leb 1 c h.someone) (le-leb c 16 h.few))

transaction_takes : (t : TransactionValue) → IsTransaction t → Takes (transaction_room t) (IsTransaction t) (length (canonical t))
unfolding transaction_room
transaction_takes t is = same-as (spent_takes (length (canonical t))) (λ _. is) (λ _. tt) refl

-- ---- lists

module _ {V : Type 0} (one : ℕ → V → ℕ → Option ℕ) (next : V → ℕ)
    (spell : V → List ℕ) (Fit : ℕ → V → Type 0) (laws : (floor : ℕ) (v : V) → Takes (one floor v) (Fit floor v) (length (spell v))) where
  items_takes : (floor : ℕ) (vs : List V) → Takes (items_room one next floor vs) (AreItems Fit next floor vs) (length (flat_map spell vs))
  unfolding items_room
  items_takes floor [] = record {
    some = λ room left e. (tt, (let l = some-is _ _ e in omega arith));
    again = λ room _ _. ap (λ (n : ℕ). Some n) (omega arith);
  }
  items_takes floor (v ∷ vs) =
      same-as (behind (laws floor v) (items_takes (next v) vs)) (λ h. h) (λ h. h) (sym (length-append (spell v) (flat_map spell vs)))

  counted_takes : (vs : List V) → Takes (counted_room one next vs) (AreCounted Fit next vs) (length (counted spell vs))
  counted_takes vs =
      same-as (guarded_takes (ltb (length vs) 256) (length vs < 256) (spent 1 ⨾ items_room one next 0 vs) (⊤ × AreItems Fit next 0 vs) (1
      + length (flat_map spell vs)) (λ e. ltb-true _ _ e) (λ h. lt-ltb (length vs) 256 h) (behind (spent_takes 1) (items_takes 0 vs)))
      (λ h. record { count = h.0; each = h.1.1 }) (λ f. (f.count, (tt, f.each))) (omega arith)

module _ (b : Bounds) where
  -- ---- items

  vote_takes : (floor : ℕ) (v : VoteValue) → Takes (vote_room b floor v) (FitsVote b floor v) (length (vote_bytes v))
  unfolding vote_room
  vote_takes floor v = same-as (behind (number_takes b.replicas floor v.replica) (signature_takes v.signature))
      (λ h. record { above = h.0.0; below = h.0.1; signature = h.1 }) (λ f. ((f.above, f.below), f.signature)) (omega arith)

  votes_takes : (vs : List VoteValue) → Takes (votes_room b vs) (FitsVotes b vs) (length (counted vote_bytes vs))
  unfolding votes_room
  votes_takes = counted_takes (vote_room b) after_vote vote_bytes (FitsVote b) vote_takes

  tally_takes : (floor : ℕ) (t : TallyValue) → Takes (tally_room b floor t) (FitsTally b floor t) (length (tally_bytes t))
  unfolding tally_room
  tally_takes floor t = same-as (behind (number_takes b.shards floor t.shard) (votes_takes t.votes))
      (λ h. record { above = h.0.0; below = h.0.1; votes = h.1 }) (λ f. ((f.above, f.below), f.votes)) (omega arith)

  tallies_takes : (ts : List TallyValue) → Takes (tallies_room b ts) (FitsTallies b ts) (length (tallies_bytes ts))
  unfolding tallies_room
  tallies_takes = counted_takes (tally_room b) after_tally tally_bytes (FitsTally b) tally_takes

  log_takes : (decided floor : ℕ) (l : LogValue) → Takes (log_room b decided floor l) (FitsLog b decided floor l) (length (log_bytes l))
  unfolding log_room
  log_takes decided floor l =
      same-as (behind (number_takes b.replicas floor l.replica) (behind (long_takes decided l.current) (signature_takes l.signature)))
      (λ h. record { above = h.0.0; below = h.0.1; later = h.1.0.0; current = h.1.0.1; signature = h.1.1 })
      (λ f. ((f.above, f.below), ((f.later, f.current), f.signature)))
      (omega (arith, length-append (u64_bytes l.current) (long_text l.signature), u64-length l.current))

  logs_takes : (decided : ℕ) (ls : List LogValue) →
      Takes (logs_room b decided ls) (AreCounted (FitsLog b decided) after_log ls) (length (counted log_bytes ls))
  unfolding logs_room
  logs_takes decided = counted_takes (log_room b decided) after_log log_bytes (FitsLog b decided) (log_takes decided)

  reply_takes : (floor : ℕ) (r : ReplyValue) → Takes (reply_room b floor r) (FitsReply b floor r) (length (reply_bytes r))
  unfolding reply_room
  reply_takes floor r =
      same-as (behind (number_takes b.replicas floor r.replica) (behind (spent_takes 1)
      (behind (long_takes 0 r.decided) (behind (long_takes r.decided r.current) (signature_takes r.signature)))))
      (λ h. record { above = h.0.0; below = h.0.1; decided = h.1.1.0.1; later = h.1.1.1.0.0; current = h.1.1.1.0.1; signature = h.1.1.1.1 })
      (λ f. ((f.above, f.below), (tt, ((omega arith, f.decided), ((f.later, f.current), f.signature)))))
      (omega (
        arith,
        length-append (u64_bytes r.decided) (u64_bytes r.current ++ long_text r.signature),
        length-append (u64_bytes r.current) (long_text r.signature),
        u64-length r.decided,
        u64-length r.current,
      ))

  replies_takes : (rs : List ReplyValue) →
      Takes (replies_room b rs) (AreCounted (FitsReply b) after_reply rs) (length (counted reply_bytes rs))
  unfolding replies_room
  replies_takes = counted_takes (reply_room b) after_reply reply_bytes (FitsReply b) reply_takes

  word_takes : (floor : ℕ) (v : WordValue) → Takes (word_room b floor v) (FitsWord b floor v) (length (word_bytes v))
  unfolding word_room
  word_takes floor v =
      same-as (behind (number_takes b.replicas floor v.replica) (behind (spent_takes 1) (signature_takes v.signature)))
      (λ h. record { above = h.0.0; below = h.0.1; signature = h.1.1 }) (λ f. ((f.above, f.below), (tt, f.signature))) (omega arith)

  words_takes : (vs : List WordValue) → Takes (words_room b vs) (AreCounted (FitsWord b) after_word vs) (length (counted word_bytes vs))
  unfolding words_room
  words_takes = counted_takes (word_room b) after_word word_bytes (FitsWord b) word_takes

  -- ---- certificates

  logged_takes : (l : LoggedValue) → Takes (logged_room b l) (FitsLogged b l) (length (logged_bytes l))
  unfolding logged_room
  logged_takes l =
      same-as (behind (number_takes b.shards 0 l.shard)
      (behind (spent_takes 1) (behind (long_takes 0 l.decided) (logs_takes l.decided l.logs))))
      (λ h. record { shard = h.0.1; decided = h.1.1.0.1; logs = h.1.1.1 })
      (λ f. ((omega arith, f.shard), (tt, ((omega arith, f.decided), f.logs))))
      (omega (arith, length-append (u64_bytes l.decided) (counted log_bytes l.logs), u64-length l.decided))

  commit_body_takes : (body : CommitBody) → Takes (commit_body_room b body) (FitsCommitBody b body) (length (commit_body_bytes body))
  commit_body_takes (FastCommit ts) = tallies_takes ts
  commit_body_takes (Logged l) = logged_takes l

  commit_takes : (c : CommitValue) → Takes (commit_room b c) (FitsCommit b c) (length (commit_bytes c))
  unfolding commit_room
  commit_takes c =
      same-where (behind (id_takes c.id) (behind (spent_takes 1) (commit_body_takes c.body)))
      (λ h. record { id = h.0; body = h.1.1 }) (λ f. (f.id, (tt, f.body)))
      (λ f. (let long : length c.id ≡ 32 = f.id in omega (arith, length-append c.id (commit_body_bytes c.body))))

  conflict_takes : (c : ConflictValue) → IsTransaction c.other → Takes (conflict_room b c) (FitsConflict b c) (length (conflict_bytes c))
  unfolding conflict_room conflict_vote_room
  conflict_takes c known =
      same-as (behind (behind (number_takes b.shards 0 c.shard) (behind (number_takes b.replicas 0 c.replica)
      (signature_takes c.signature))) (behind (transaction_takes c.other known) (commit_takes c.proof)))
      (λ h. record { shard = h.0.0.1; replica = h.0.1.0.1; signature = h.0.1.1; other = h.1.0; proof = h.1.1 })
      (λ f. (((omega arith, f.shard), ((omega arith, f.replica), f.signature)), (f.other, f.proof)))
      (omega (
        arith,
        length-append (long_text c.signature) (canonical c.other ++ commit_bytes c.proof),
        length-append (canonical c.other) (commit_bytes c.proof),
      ))

  body_takes : (body : BodyValue) → KnownBody body → Takes (body_room b body) (FitsBody b body) (length (body_bytes body))
  body_takes (Commits body) known = commit_body_takes body
  body_takes (FastAbort t) known = tally_takes 0 t
  body_takes (ConflictAbort c) known = conflict_takes c known

  certificate_takes : (c : CertificateValue) →
      KnownBody c.body → Takes (certificate_room b c) (FitsCertificate b c) (length (certificate_bytes c))
  unfolding certificate_room
  certificate_takes c known =
      same-where (behind (spent_takes 1) (behind (id_takes c.id) (body_takes c.body known)))
      (λ h. record { id = h.1.0; body = h.1.1 }) (λ f. (tt, (f.id, f.body)))
      (λ f. (let long : length c.id ≡ 32 = f.id in omega (arith, length-append c.id (body_bytes c.body))))

  pair_takes : (c : CommittedValue) → IsTransaction c.transaction →
      KnownBody c.certificate.body → Takes (committed_room b c) (FitsCommitted b c) (length (committed_bytes c))
  unfolding committed_room
  pair_takes c transaction body =
      same-as (guarded_takes (is_commit c.certificate.body) (is_commit c.certificate.body ≡ true) (transaction_room c.transaction
      ⨾ certificate_room b c.certificate) (IsTransaction c.transaction × FitsCertificate b c.certificate)
      (length (canonical c.transaction) + length (certificate_bytes c.certificate))
      (λ e. e) (λ e. e) (behind (transaction_takes c.transaction transaction) (certificate_takes c.certificate body)))
      (λ h. record { transaction = h.1.0; certificate = h.1.1; commits = h.0 }) (λ f. (f.commits, (f.transaction, f.certificate)))
      (sym (length-append (canonical c.transaction) (certificate_bytes c.certificate)))

  some_takes : {A : Type 0} (allowed : Bool) (one : A → ℕ → Option ℕ) (Fit : A → Type 0) (spell : A → List ℕ) (a : A) → Takes (one a)
      (Fit a) (length (spell a)) → Takes (part_room allowed one (Some a)) (FitsPart allowed Fit (Some a)) (length (optional spell (Some a)))
  some_takes allowed one Fit spell a takes =
      same-as (guarded_takes allowed (allowed ≡ true) (spent 1 ⨾ one a) (⊤ × Fit a)
      (1 + length (spell a)) (λ e. e) (λ e. e) (behind (spent_takes 1) takes)) (λ h. (h.0, h.1.1)) (λ f. (f.0, (tt, f.1))) (omega arith)

  committed_takes : (allowed : Bool) (part : Option CommittedValue) → KnownCommitted part →
      Takes (part_room allowed (committed_room b) part) (FitsPart allowed (FitsCommitted b) part) (length (optional committed_bytes part))
  committed_takes allowed None known = spent_takes 1
  committed_takes allowed (Some c) known =
      some_takes allowed (committed_room b) (FitsCommitted b) committed_bytes c (pair_takes c known.0 known.1)

  prepared_takes : (part : Option TransactionValue) → KnownPrepared part →
      Takes (part_room true transaction_room part) (FitsPart true IsTransaction part) (length (optional canonical part))
  prepared_takes None known = spent_takes 1
  prepared_takes (Some t) known = some_takes true transaction_room IsTransaction canonical t (transaction_takes t known)

  -- ---- messages

  abbrev InPlace : ℕ → ℕ → Type 0
  InPlace shard replica = (shard < b.shards) × (replica < b.replicas)

  place_takes : (shard replica : ℕ) → Takes (place_room b shard replica) (InPlace shard replica) 2
  unfolding place_room
  place_takes shard replica = same-as (behind (number_takes b.shards 0 shard) (number_takes b.replicas 0 replica))
      (λ h. (h.0.1, h.1.1)) (λ f. ((omega arith, f.0), (omega arith, f.1))) refl

  signed_takes : (m : SignedValue) → IsTransaction m.transaction → Takes (signed_room m) (FitsSigned m) (length (signed_bytes m))
  unfolding signed_room
  signed_takes m known =
      same-as (behind (transaction_takes m.transaction known) (signature_takes m.signature))
      (λ h. record { transaction = h.0; signature = h.1 }) (λ f. (f.transaction, f.signature))
      (omega (arith, length-append (canonical m.transaction) (long_text m.signature)))

  left_takes : (m : MessageValue) → Known m → Takes (body_left b m) (FitsMessage b m) (length (message_bytes m))
  unfolding read_room read_reply_room voted_room st2_room log_reply_room writeback_room invoke_room elect_room decide_room
  left_takes (Read m) known =
      same-as (behind (key_takes m.key known) (behind (long_takes 0 m.time) (client_takes m.client)))
      (λ h. record { key = h.0; time = h.1.0.1; client = h.1.1 }) (λ f. (f.key, ((omega arith, f.time), f.client)))
      (omega (
        arith,
        length-append (short_text m.key) (u64_bytes m.time ++ m.client ∷ []),
        length-append (u64_bytes m.time) (m.client ∷ []),
        u64-length m.time,
      ))
  left_takes (ReadReply m) known =
      (let tail = optional canonical m.prepared ++ long_text m.signature in
      let all = optional committed_bytes m.committed ++ tail in
      same-as (behind (place_takes m.shard m.replica) (behind (key_takes m.key known.key)
      (behind (long_takes 0 m.time) (behind (client_takes m.client) (behind (committed_takes true m.committed known.committed)
      (behind (prepared_takes m.prepared known.prepared) (signature_takes m.signature)))))))
      (λ h. record {
        shard = h.0.0;
        replica = h.0.1;
        key = h.1.0;
        time = h.1.1.0.1;
        client = h.1.1.1.0;
        committed = h.1.1.1.1.0;
        prepared = h.1.1.1.1.1.0;
        signature = h.1.1.1.1.1.1;
      })
      (λ f. ((f.shard, f.replica), (f.key, ((omega arith, f.time), (f.client, (f.committed, (f.prepared, f.signature)))))))
      (omega (
        arith,
        length-append (short_text m.key) (u64_bytes m.time ++ m.client ∷ all),
        length-append (u64_bytes m.time) (m.client ∷ all),
        u64-length m.time,
        length-append (optional committed_bytes m.committed) tail,
        length-append (optional canonical m.prepared) (long_text m.signature),
      )))
  left_takes (St1 m) known = signed_takes m known
  left_takes (Vote m) known =
      (let tail = optional committed_bytes m.proof ++ long_text m.signature in
      same-where (behind (place_takes m.shard m.replica) (behind (id_takes m.id)
      (behind (spent_takes 1) (behind (committed_takes (is_abort m.decision) m.proof known) (signature_takes m.signature)))))
      (λ h. record { shard = h.0.0; replica = h.0.1; id = h.1.0; proof = h.1.1.1.0; signature = h.1.1.1.1 })
      (λ f. ((f.shard, f.replica), (f.id, (tt, (f.proof, f.signature)))))
      (λ f. (let long : length m.id ≡ 32 = f.id in omega (
        arith,
        length-append m.id (decision_byte m.decision ∷ tail),
        length-append (optional committed_bytes m.proof) (long_text m.signature),
      ))))
  left_takes (St2 m) known =
      (let tail = decision_byte m.decision ∷ tallies_bytes m.tallies in
      same-as (behind (transaction_takes m.transaction known)
      (behind (signature_takes m.signature) (behind (spent_takes 1) (tallies_takes m.tallies))))
      (λ h. record { transaction = h.0; signature = h.1.0; tallies = h.1.1.1 }) (λ f. (f.transaction, (f.signature, (tt, f.tallies))))
      (omega (arith, length-append (canonical m.transaction) (long_text m.signature ++ tail), length-append (long_text m.signature) tail)))
  left_takes (LogReply m) known =
      (let tail = u64_bytes m.current ++ long_text m.signature in
      same-where (behind (place_takes m.shard m.replica) (behind (id_takes m.id) (behind (spent_takes 1)
      (behind (long_takes 0 m.decided) (behind (long_takes m.decided m.current) (signature_takes m.signature))))))
      (λ h. record {
        shard = h.0.0;
        replica = h.0.1;
        id = h.1.0;
        decided = h.1.1.1.0.1;
        later = h.1.1.1.1.0.0;
        current = h.1.1.1.1.0.1;
        signature = h.1.1.1.1.1;
      })
      (λ f. ((f.shard, f.replica), (f.id, (tt, ((omega arith, f.decided), ((f.later, f.current), f.signature))))))
      (λ f. (let long : length m.id ≡ 32 = f.id in
      omega (
        arith,
        length-append m.id (decision_byte m.decision ∷ (u64_bytes m.decided ++ tail)),
        length-append (u64_bytes m.decided)
            tail,
        length-append (u64_bytes m.current) (long_text m.signature),
        u64-length m.decided,
        u64-length m.current,
      ))))
  left_takes (Writeback m) known =
      same-as (behind (transaction_takes m.transaction known.0) (certificate_takes m.certificate known.1))
      (λ h. record { transaction = h.0; certificate = h.1 })
      (λ f. (f.transaction, f.certificate)) (sym (length-append (canonical m.transaction) (certificate_bytes m.certificate)))
  left_takes (Recover m) known = signed_takes m known
  left_takes (Invoke m) known =
      same-where (behind (id_takes m.id) (behind (number_takes b.shards 0 m.shard) (replies_takes m.replies)))
      (λ h. record { id = h.0; shard = h.1.0.1; replies = h.1.1 }) (λ f. (f.id, ((omega arith, f.shard), f.replies)))
      (λ f. (let long : length m.id ≡ 32 = f.id in omega (arith, length-append m.id (m.shard ∷ counted reply_bytes m.replies))))
  left_takes (Elect m) known =
      (let tail = u64_bytes m.view ++ long_text m.signature in
      same-as (behind (transaction_takes m.transaction known)
      (behind (place_takes m.shard m.replica) (behind (spent_takes 1) (behind (long_takes 1 m.view) (signature_takes m.signature)))))
      (λ h. record { transaction = h.0; shard = h.1.0.0; replica = h.1.0.1; some = h.1.1.1.0.0; view = h.1.1.1.0.1; signature = h.1.1.1.1 })
      (λ f. (f.transaction, ((f.shard, f.replica), (tt, ((f.some, f.view), f.signature)))))
      (omega (
        arith,
        length-append (canonical m.transaction) (m.shard ∷ m.replica ∷ decision_byte m.decision ∷ tail),
        length-append (u64_bytes m.view) (long_text m.signature),
        u64-length m.view,
      )))
  left_takes (Decide m) known =
      (let tail = counted word_bytes m.words ++ long_text m.signature in
      same-as (behind (transaction_takes m.transaction known) (behind (place_takes m.shard m.replica)
      (behind (spent_takes 1) (behind (long_takes 1 m.view) (behind (words_takes m.words) (signature_takes m.signature))))))
      (λ h. record {
        transaction = h.0;
        shard = h.1.0.0;
        replica = h.1.0.1;
        some = h.1.1.1.0.0;
        view = h.1.1.1.0.1;
        words = h.1.1.1.1.0;
        signature = h.1.1.1.1.1;
      })
      (λ f. (f.transaction, ((f.shard, f.replica), (tt, ((f.some, f.view), (f.words, f.signature))))))
      (omega (
        arith,
        length-append (canonical m.transaction) (m.shard ∷ m.replica ∷ decision_byte m.decision ∷ (u64_bytes m.view ++ tail)),
        length-append (u64_bytes m.view) tail,
        length-append (counted word_bytes m.words) (long_text m.signature),
        u64-length m.view,
      )))

  message_takes : (m : MessageValue) → Known m → Takes (message_room b m) (FitsMessage b m) (length (spelling m))
  unfolding message_room
  message_takes m known = same-as (behind (spent_takes 1) (left_takes m known)) (λ h. h.1) (λ f. (tt, f)) (omega arith)

  -- ---- what fits is of what is known

  known_body : (body : BodyValue) → FitsBody b body → KnownBody body
  known_body (Commits body) f = tt
  known_body (FastAbort t) f = tt
  known_body (ConflictAbort c) f = f.other

  known_committed : (allowed : Bool) (part : Option CommittedValue) → FitsPart allowed (FitsCommitted b) part → KnownCommitted part
  known_committed allowed None f = tt
  known_committed allowed (Some c) f = (let g = f.1 in (g.transaction, known_body c.certificate.body g.certificate.body))

  known_prepared : (part : Option TransactionValue) → FitsPart true IsTransaction part → KnownPrepared part
  known_prepared None f = tt
  known_prepared (Some t) f = f.1

  known_message : (m : MessageValue) → FitsMessage b m → Known m
  known_message (Read m) f = f.key.bytes
  known_message (ReadReply m) f = record {
    key = f.key.bytes;
    committed = known_committed true m.committed f.committed;
    prepared = known_prepared m.prepared f.prepared;
  }
  known_message (St1 m) f = f.transaction
  known_message (Vote m) f = known_committed (is_abort m.decision) m.proof f.proof
  known_message (St2 m) f = f.transaction
  known_message (LogReply m) f = tt
  known_message (Writeback m) f = (f.transaction, known_body m.certificate.body f.certificate.body)
  known_message (Recover m) f = f.transaction
  known_message (Invoke m) f = tt
  known_message (Elect m) f = f.transaction
  known_message (Decide m) f = f.transaction

  abbrev pub Fitting : MessageValue → Type 0
  Fitting m = FitsMessage b m × (length (spelling m) ≤ frame_limit)

  pub room_tells : (m : MessageValue) (o : Option ℕ) →
      o ≡ message_room b m frame_limit → OnSome o (Known m) → IsTrue (is_some o) ↔ Fitting m
  room_tells m (Some left) e known =
      ((λ _. (let r = (message_takes m known).some frame_limit left (sym e) in (r.0, omega (arith, r.1)))), λ _. refl)
  room_tells m None e known =
      ((λ t. absurd cc), λ f. (let a = (message_takes m (known_message m f.0)).again frame_limit f.0 f.1 in absurd cc))
