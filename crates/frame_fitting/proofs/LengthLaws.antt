-- The lengths of spellings, for at most 31 replicas and 8 shards.
use Rattle.std.proofs.Common.{◌≡◌, ℕ, ◌+◌, ◌*◌, ◌<◌, ◌≤◌, Bool, true, false, cond, eqb, List, [], ◌∷◌}
use Rattle.std.proofs.Common.{◌++◌, length, map, Option, Some, None, refl, ap, length-append, arith}
use Rattle.std.specs.List.{AllByRecursion, flat_map}
use Rattle.std.proofs.lemmas.List.Elements.{recursion_from_All}
use Rattle.basil_types.specs.Lists.{AreItems}
use Rattle.basil_types.specs.Setting.{Setting, IsSetting}
use Rattle.basil_types.specs.Transaction as transactions
use Rattle.basil_types.specs.Transaction.{TransactionValue, IsTransaction, canonical, short_text, long_text}
use Rattle.basil_types.specs.Transaction.{read_bytes, written_bytes, write_bytes, key_of_read, key_of_write}
use Rattle.basil_types.specs.Words.{decision_byte}
use Rattle.basil_types.specs.declared.party.Decision.{Decision}
use Rattle.basil_types.specs.declared.party.Decision.TheVariants as decision
use Rattle.basil_types.specs.declared.transaction.parts.ReadPart.{ReadPart}
use Rattle.basil_types.specs.declared.transaction.parts.WritePart.{WritePart}
use Rattle.frame_views.specs.declared.bounds.Bounds.{Bounds}
use Rattle.frame_views.specs.Values.{VoteValue, TallyValue, LogValue, ReplyValue, WordValue, LoggedValue, CommitBody, FastCommit}
use Rattle.frame_views.specs.Values.{Logged, CommitValue, BodyValue, Commits, FastAbort, ConflictAbort, CertificateValue, CommittedValue}
use Rattle.frame_views.specs.Values.{MessageValue, Read, ReadReply, St1, Vote, St2, LogReply, Writeback, Recover, Invoke, Elect, Decide}
use Rattle.frame_views.specs.Spelling.{u64_bytes, counted, optional, vote_bytes, tally_bytes, tallies_bytes}
use Rattle.frame_views.specs.Spelling.{log_bytes, reply_bytes, word_bytes, logged_bytes, commit_body_bytes}
use Rattle.frame_views.specs.Spelling.{commit_bytes, body_bytes, certificate_bytes, committed_bytes, spelling}
use Rattle.frame_views.specs.Fitting.{bounds_of, AreCounted, FitsPart, is_abort, after_vote, after_tally, after_log, after_reply}
use Rattle.frame_views.specs.Fitting.{after_word, FitsVote, FitsVotes, FitsTally, FitsTallies, FitsLog, FitsReply, FitsWord}
use Rattle.frame_views.specs.Fitting.{FitsLogged, FitsCommitBody, FitsCommit, FitsBody, FitsCertificate, FitsCommitted, FitsMessage}
use Rattle.frame_views.specs.Frames.{frame_limit}
use Rattle.frame_views.specs.Signed.{SignedBy, vote_signed, log_signed, word_signed, tally_signed, tallies_signed, one_logged}
use Rattle.frame_views.specs.Signed.{logged_signed, commit_signed, body_signed, certificate_signed, committed_signed, signed_in}
use Rattle.frame_fitting.specs.Lengths.{AreShort}

-- ---- lists

module _ {V : Type 0} (spell : V → List ℕ) (longest : ℕ) where
  pub items_length : (vs : List V) → AllByRecursion (λ v. length (spell v) ≤ longest) vs → length (flat_map spell vs) ≤ length vs * longest
  items_length [] each = omega arith
  items_length (v ∷ vs) each =
      let front = each.0 in
      let rest : length (flat_map spell vs) ≤ length vs * longest = items_length vs each.1 in
      omega (arith, length-append (spell v) (flat_map spell vs), mul-suc-left (length vs) longest)
    where
      mul-suc-left : (n k : ℕ) → (n + 1) * k ≡ n * k + k
      mul-suc-left n k = grind arith

pub few_items : (count top k total : ℕ) → total ≤ count * k → count ≤ top → total ≤ top * k
few_items count top k total at few = grind arith

-- ---- transactions

read_length : (before : List ℕ) (r : ReadPart) → transactions.FitsRead before r → length (read_bytes r) ≤ 107
read_length before r f =
    let short = f.key.short in
    let id = f.version.id in
    simp length-append (omega arith)

written_length : (format : ℕ) (w : WritePart) → length w.value ≤ 256 → length (written_bytes format w) ≤ 259
written_length format w short = by (eqb format 1) w.deletes
  where
    by : (plain deletes : Bool) → length (cond plain (long_text w.value) (cond deletes (0 ∷ []) (1 ∷ long_text w.value))) ≤ 259
    by true deletes = omega arith
    by false true = omega arith
    by false false = omega arith

write_length : (format : ℕ) (before : List ℕ) (w : WritePart) → transactions.FitsWrite format before w → length (write_bytes format w) ≤ 324
write_length format before w f =
    let short = f.key.short in
    let value = written_length format w f.value.short in
    omega (arith, length-append (short_text w.key) (written_bytes format w))

reads_short : (before : List ℕ) (rs : List ReadPart) →
    AreItems transactions.FitsRead key_of_read before rs → AllByRecursion (λ r. length (read_bytes r) ≤ 107) rs
reads_short before [] fits = tt
reads_short before (r ∷ rs) fits = (read_length before r fits.0, reads_short (key_of_read r) rs fits.1)

writes_short : (format : ℕ) (before : List ℕ) (ws : List WritePart) →
    AreItems (transactions.FitsWrite format) key_of_write before ws → AllByRecursion (λ w. length (write_bytes format w) ≤ 324) ws
writes_short format before [] fits = tt
writes_short format before (w ∷ ws) fits = (write_length format before w fits.0, writes_short format (key_of_write w) ws fits.1)

pub transaction_length : (t : TransactionValue) → IsTransaction t → length (canonical t) ≤ 13804
transaction_length t f =
    let reads = few_items (length t.reads) 32 107
    (length (flat_map read_bytes t.reads)) (items_length read_bytes 107 t.reads (reads_short [] t.reads f.reads)) f.few_reads in
    let writes = few_items (length t.writes) 32 324 (length (flat_map (write_bytes t.format) t.writes))
    (items_length (write_bytes t.format) 324 t.writes (writes_short t.format [] t.writes f.writes)) f.few_writes in
    simp length-append (omega arith)

-- ---- items

pub u64-length : (n : ℕ) → length (u64_bytes n) ≡ 8
unfolding u64_bytes
u64-length n = refl

-- numbers that ascend below top are at most so many
few_numbers : {V : Type 0} (Fit : ℕ → V → Type 0) (next : V → ℕ) (top : ℕ) → ((floor : ℕ) (v : V) → Fit floor v →
    (floor + 1 ≤ next v) × (next v ≤ top)) → (floor : ℕ) (vs : List V) → AreItems Fit next floor vs → floor ≤ top → floor + length vs ≤ top
few_numbers Fit next top one floor [] fits low = omega arith
few_numbers Fit next top one floor (v ∷ vs) fits low =
    let h = one floor v fits.0 in
    let rest : next v + length vs ≤ top = few_numbers Fit next top one (next v) vs fits.1 h.1 in
    omega (arith, h.0)

split : {A : Type 0} (P : A → Type 0) (xs ys : List A) → AllByRecursion P (xs ++ ys) → AllByRecursion P xs × AllByRecursion P ys
split P [] ys each = (tt, each)
split P (x ∷ xs) ys each = (let rest = split P xs ys each.1 in ((each.0, rest.0), rest.1))

module _ (b : Bounds) (shards : b.shards ≤ 8) (replicas : b.replicas ≤ 31) (longest : ℕ) where
  abbrev Short : SignedBy → Type 0
  Short s = length s.signature ≤ longest

  abbrev Each : List SignedBy → Type 0
  Each signed = AllByRecursion Short signed

  votes_each : (of : VoteValue → SignedBy) → ((v : VoteValue) → (of v).signature ≡ v.signature) →
      (vs : List VoteValue) → Each (map of vs) → AllByRecursion (λ v. length (vote_bytes v) ≤ longest + 3) vs
  votes_each of same [] each = tt
  votes_each of same (v ∷ vs) each =
      (let short : length (of v).signature ≤ longest = each.0 in omega (arith, ap length (same v)), votes_each of same vs each.1)

  votes_length : (vs : List VoteValue) → FitsVotes b vs →
      AllByRecursion (λ v. length (vote_bytes v) ≤ longest + 3) vs → length (counted vote_bytes vs) ≤ 31 * (longest + 3) + 1
  votes_length vs fits each =
      let count = few_numbers (FitsVote b) after_vote 31
      (λ floor v f. (omega (arith, f.above), omega (arith, f.below))) 0 vs fits.each (omega arith) in
      let total = few_items (length vs) 31
      (longest + 3) (length (flat_map vote_bytes vs)) (items_length vote_bytes (longest + 3) vs each) (omega arith) in
      omega arith

  tally_length : (floor : ℕ) (id : List ℕ) (d : Decision) (t : TallyValue) →
      FitsTally b floor t → Each (tally_signed id d t) → length (tally_bytes t) ≤ 31 * (longest + 3) + 2
  tally_length floor id d t fits each =
      let votes = votes_length t.votes fits.votes (votes_each (vote_signed t.shard id d) (λ v. refl) t.votes each) in
      omega arith

  tallies_each : (floor : ℕ) (id : List ℕ) (d : Decision) (ts : List TallyValue) → AreItems (FitsTally b) after_tally floor ts →
      Each (tallies_signed id d ts) → AllByRecursion (λ t. length (tally_bytes t) ≤ 31 * (longest + 3) + 2) ts
  tallies_each floor id d [] fits each = tt
  tallies_each floor id d (t ∷ ts) fits each =
      (let parts = split Short (tally_signed id d t) (tallies_signed id d ts) each in
      (tally_length floor id d t fits.0 parts.0, tallies_each (after_tally t) id d ts fits.1 parts.1))

  tallies_length : (id : List ℕ) (d : Decision) (ts : List TallyValue) →
      FitsTallies b ts → Each (tallies_signed id d ts) → length (tallies_bytes ts) ≤ 8 * (31 * (longest + 3) + 2) + 1
  tallies_length id d ts fits each =
      let count = few_numbers (FitsTally b) after_tally 8
      (λ floor t f. (omega (arith, f.above), omega (arith, f.below))) 0 ts fits.each (omega arith) in
      let total = few_items (length ts) 8 (31 * (longest + 3) + 2) (length (flat_map tally_bytes ts))
      (items_length tally_bytes (31 * (longest + 3) + 2) ts (tallies_each 0 id d ts fits.each each)) (omega arith) in
      omega arith

  logs_each : (of : LogValue → SignedBy) → ((l : LogValue) → (of l).signature ≡ l.signature) →
      (ls : List LogValue) → Each (map of ls) → AllByRecursion (λ l. length (log_bytes l) ≤ longest + 11) ls
  logs_each of same [] each = tt
  logs_each of same (l ∷ ls) each = (
    let short : length (of l).signature ≤ longest = each.0 in
        omega (arith, ap length (same l), length-append (u64_bytes l.current) (long_text l.signature), u64-length l.current),
    logs_each of same ls each.1,
  )

  logged_length : (id : List ℕ) (l : LoggedValue) →
      FitsLogged b l → Each (logged_signed id l) → length (logged_bytes l) ≤ 31 * (longest + 11) + 11
  logged_length id l fits each =
      let count = few_numbers (FitsLog b l.decided) after_log 31
      (λ floor v f. (omega (arith, f.above), omega (arith, f.below))) 0 l.logs fits.logs.each (omega arith) in
      let total = few_items (length l.logs) 31 (longest + 11) (length (flat_map log_bytes l.logs)) (items_length log_bytes
      (longest + 11) l.logs (logs_each (one_logged l.shard id l.decision l.decided) (λ v. refl) l.logs each)) (omega arith) in
      omega (arith, length-append (u64_bytes l.decided) (counted log_bytes l.logs), u64-length l.decided)

  replies_each : (of : ReplyValue → SignedBy) → ((r : ReplyValue) → (of r).signature ≡ r.signature) →
      (rs : List ReplyValue) → Each (map of rs) → AllByRecursion (λ r. length (reply_bytes r) ≤ longest + 20) rs
  replies_each of same [] each = tt
  replies_each of same (r ∷ rs) each = (
    let short : length (of r).signature ≤ longest = each.0 in
        omega (
          arith,
          ap length (same r),
          length-append (u64_bytes r.decided) (u64_bytes r.current ++ long_text r.signature),
          length-append (u64_bytes r.current) (long_text r.signature),
          u64-length r.decided,
          u64-length r.current,
        ),
    replies_each of same rs each.1,
  )

  replies_length : (of : ReplyValue → SignedBy) → ((r : ReplyValue) → (of r).signature ≡ r.signature) → (rs : List ReplyValue) →
      AreCounted (FitsReply b) after_reply rs → Each (map of rs) → length (counted reply_bytes rs) ≤ 31 * (longest + 20) + 1
  replies_length of same rs fits each =
      let count = few_numbers (FitsReply b) after_reply 31
      (λ floor v f. (omega (arith, f.above), omega (arith, f.below))) 0 rs fits.each (omega arith) in
      let total = few_items (length rs) 31 (longest + 20)
      (length (flat_map reply_bytes rs)) (items_length reply_bytes (longest + 20) rs (replies_each of same rs each)) (omega arith) in
      omega arith

  words_each : (of : WordValue → SignedBy) → ((v : WordValue) → (of v).signature ≡ v.signature) →
      (vs : List WordValue) → Each (map of vs) → AllByRecursion (λ v. length (word_bytes v) ≤ longest + 4) vs
  words_each of same [] each = tt
  words_each of same (v ∷ vs) each =
      (let short : length (of v).signature ≤ longest = each.0 in omega (arith, ap length (same v)), words_each of same vs each.1)

  words_length : (of : WordValue → SignedBy) → ((v : WordValue) → (of v).signature ≡ v.signature) → (vs : List WordValue) →
      AreCounted (FitsWord b) after_word vs → Each (map of vs) → length (counted word_bytes vs) ≤ 31 * (longest + 4) + 1
  words_length of same vs fits each =
      let count = few_numbers (FitsWord b) after_word 31
      (λ floor v f. (omega (arith, f.above), omega (arith, f.below))) 0 vs fits.each (omega arith) in
      let total = few_items (length vs) 31 (longest + 4)
      (length (flat_map word_bytes vs)) (items_length word_bytes (longest + 4) vs (words_each of same vs each)) (omega arith) in
      omega arith

  -- ---- certificates

  commit_body_length : (id : List ℕ) (body : CommitBody) →
      FitsCommitBody b body → Each (commit_signed id body) → length (commit_body_bytes body) ≤ 248 * longest + 761
  commit_body_length id (FastCommit ts) fits each = omega (arith, tallies_length id decision.Commit ts fits each)
  commit_body_length id (Logged l) fits each = omega (arith, logged_length id l fits each)

  pub commit_length : (c : CommitValue) → FitsCommit b c → Each (commit_signed c.id c.body) → length (commit_bytes c) ≤ 248 * longest + 794
  commit_length c fits each =
      let body = commit_body_length c.id c.body fits.body each in
      let id = fits.id in
      omega (arith, length-append c.id (commit_body_bytes c.body))

  body_length : (id : List ℕ) (body : BodyValue) →
      FitsBody b body → Each (body_signed id body) → length (body_bytes body) ≤ 249 * longest + 14602
  body_length id (Commits body) fits each = omega (arith, commit_body_length id body fits each)
  body_length id (FastAbort t) fits each = omega (arith, tally_length 0 id decision.Abort t fits each)
  body_length id (ConflictAbort c) fits each =
      let proof = commit_length c.proof fits.proof each.1 in
      let other = transaction_length c.other fits.other in
      let short : length c.signature ≤ longest = each.0 in
      omega (
        arith,
        length-append (long_text c.signature) (canonical c.other ++ commit_bytes c.proof),
        length-append (canonical c.other) (commit_bytes c.proof),
      )

  pub certificate_length : (c : CertificateValue) →
      FitsCertificate b c → Each (certificate_signed c) → length (certificate_bytes c) ≤ 249 * longest + 14635
  certificate_length c fits each =
      let body = body_length c.id c.body fits.body each in
      let id = fits.id in
      omega (arith, length-append c.id (body_bytes c.body))

  -- ---- messages

  committed_length : (allowed : Bool) (part : Option CommittedValue) → FitsPart allowed (FitsCommitted b) part →
      Each (committed_signed part) → length (optional committed_bytes part) ≤ 249 * longest + 28440
  committed_length allowed None fits each = omega arith
  committed_length allowed (Some c) fits each =
      (let f = fits.1 in
      let certificate = certificate_length c.certificate f.certificate each in
      let transaction = transaction_length c.transaction f.transaction in
      omega (arith, length-append (canonical c.transaction) (certificate_bytes c.certificate)))

  prepared_length : (part : Option TransactionValue) → FitsPart true IsTransaction part → length (optional canonical part) ≤ 13805
  prepared_length None fits = omega arith
  prepared_length (Some t) fits = omega (arith, transaction_length t fits.1)

  pub message_length : (m : MessageValue) → FitsMessage b m → Each (signed_in m) → length (spelling m) ≤ 250 * longest + 42400
  message_length (Read m) fits each =
      let key = fits.key.short in
      omega (
        arith,
        length-append (short_text m.key) (u64_bytes m.time ++ m.client ∷ []),
        length-append (u64_bytes m.time) (m.client ∷ []),
        u64-length m.time,
      )
  message_length (ReadReply m) fits each =
      let parts = split Short (committed_signed m.committed) _ each in
      let short : length m.signature ≤ longest = parts.1.0 in
      let key = fits.key.short in
      let committed = committed_length true m.committed fits.committed parts.0 in
      let prepared = prepared_length m.prepared fits.prepared in
      let tail = optional canonical m.prepared ++ long_text m.signature in
      let behind = optional committed_bytes m.committed ++ tail in
      omega (
        arith,
        length-append (short_text m.key) (u64_bytes m.time ++ m.client ∷ behind),
        length-append (u64_bytes m.time) (m.client ∷ behind),
        u64-length m.time,
        length-append (optional committed_bytes m.committed) tail,
        length-append (optional canonical m.prepared) (long_text m.signature),
      )
  message_length (St1 m) fits each =
      let short : length m.signature ≤ longest = each.0 in
      omega (arith, transaction_length m.transaction fits.transaction, length-append (canonical m.transaction) (long_text m.signature))
  message_length (Vote m) fits each =
      let parts = split Short (committed_signed m.proof) _ each in
      let short : length m.signature ≤ longest = parts.1.0 in
      let id = fits.id in
      let proof = committed_length (is_abort m.decision) m.proof fits.proof parts.0 in
      let tail = optional committed_bytes m.proof ++ long_text m.signature in
      omega (
        arith,
        length-append m.id (decision_byte m.decision ∷ tail),
        length-append (optional committed_bytes m.proof) (long_text m.signature),
      )
  message_length (St2 m) fits each =
      let short : length m.signature ≤ longest = each.0 in
      let tallies = tallies_length (transactions.id m.transaction) m.decision m.tallies fits.tallies each.1 in
      let tail = decision_byte m.decision ∷ tallies_bytes m.tallies in
      omega (
        arith,
        transaction_length m.transaction fits.transaction,
        length-append (canonical m.transaction) (long_text m.signature ++ tail),
        length-append (long_text m.signature) tail,
      )
  message_length (LogReply m) fits each =
      let short : length m.signature ≤ longest = each.0 in
      let id = fits.id in
      let tail = u64_bytes m.current ++ long_text m.signature in
      omega (
        arith,
        length-append m.id (decision_byte m.decision ∷ (u64_bytes m.decided ++ tail)),
        length-append (u64_bytes m.decided) tail,
        length-append (u64_bytes m.current) (long_text m.signature),
        u64-length m.decided,
        u64-length m.current,
      )
  message_length (Writeback m) fits each =
      let certificate = certificate_length m.certificate fits.certificate each in
      omega (
        arith,
        transaction_length m.transaction fits.transaction,
        length-append (canonical m.transaction) (certificate_bytes m.certificate),
      )
  message_length (Recover m) fits each =
      let short : length m.signature ≤ longest = each.0 in
      omega (arith, transaction_length m.transaction fits.transaction, length-append (canonical m.transaction) (long_text m.signature))
  message_length (Invoke m) fits each =
      let id = fits.id in
      let replies = replies_length (log_signed m.shard m.id) (λ r. refl) m.replies fits.replies each in
      omega (arith, length-append m.id (m.shard ∷ counted reply_bytes m.replies))
  message_length (Elect m) fits each =
      let short : length m.signature ≤ longest = each.0 in
      let tail = u64_bytes m.view ++ long_text m.signature in
      omega (
        arith,
        transaction_length m.transaction fits.transaction,
        length-append (canonical m.transaction) (m.shard ∷ m.replica
            ∷ decision_byte m.decision ∷ tail),
        length-append (u64_bytes m.view) (long_text m.signature),
        u64-length m.view,
      )
  message_length (Decide m) fits each =
      let of = word_signed m.shard (transactions.id m.transaction) m.view in
      let parts = split Short (map of m.words) _ each in
      let short : length m.signature ≤ longest = parts.1.0 in
      let words = words_length of (λ v. refl) m.words fits.words parts.0 in
      let tail = counted word_bytes m.words ++ long_text m.signature in
      omega (
        arith,
        transaction_length m.transaction fits.transaction,
        length-append (canonical m.transaction) (m.shard ∷ m.replica ∷ decision_byte m.decision ∷ (u64_bytes m.view ++ tail)),
        length-append (u64_bytes m.view) tail,
        length-append (counted word_bytes m.words) (long_text m.signature),
        u64-length m.view,
      )

-- ---- in a cluster

module _ (c : Setting) (is : IsSetting c) where
  few : (bounds_of c).shards ≤ 8
  few = omega (arith, is.few)

  most : (bounds_of c).replicas ≤ 31
  most = omega (arith, is.faulty)

  each_of : (longest : ℕ) (signed : List SignedBy) → AreShort longest signed → AllByRecursion (λ s. length s.signature ≤ longest) signed
  each_of longest signed = recursion_from_All (λ s. length s.signature ≤ longest) signed

  pub frame_length : (m : MessageValue) → FitsMessage (bounds_of c) m → AreShort 2510 (signed_in m) → length (spelling m) < frame_limit
  frame_length m fits short = omega (arith, message_length (bounds_of c) few most 2510 m fits (each_of 2510 (signed_in m) short))

  pub longest_commit : (v : CommitValue) →
      FitsCommit (bounds_of c) v → AreShort 2508 (commit_signed v.id v.body) → length (commit_bytes v) ≤ 622778
  longest_commit v fits short =
      omega (arith, commit_length (bounds_of c) few most 2508 v fits (each_of 2508 (commit_signed v.id v.body) short))

  pub longest_certificate : (v : CertificateValue) →
      FitsCertificate (bounds_of c) v → AreShort 2508 (certificate_signed v) → length (certificate_bytes v) ≤ 639127
  longest_certificate v fits short =
      omega (arith, certificate_length (bounds_of c) few most 2508 v fits (each_of 2508 (certificate_signed v) short))
