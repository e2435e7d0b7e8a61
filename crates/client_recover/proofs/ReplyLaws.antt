-- What is kept of log replies tells what all that were taken tell.
use Rattle.std.proofs.Common.{◌≡◌, ℕ, ◌+◌, ◌⊎◌, inl, inr, Bool, true, false, cond, List, [], ◌∷◌, ◌++◌, length, map, take, Option, Some}
use Rattle.std.proofs.Common.{None, refl, sym, ap, subst, ◌∙◌, append-nil, length-append, arith}
use Rattle.std.specs.Prelude.{filter, filter_map, find, ◌&&◌, ◌==◌, option_map, is_some, not, nat_le, nat_lt, nat_eq}
use Rattle.std.specs.Bool.{beq}
use Rattle.std.specs.Cmp.{nat_eq_equiv}
use Rattle.std.proofs.Math.ListN.{length-map}
use Rattle.std.proofs.lemmas.Bool.{cases_Bool, and_parts, eqb-true}
use Rattle.std.proofs.lemmas.Bool.Decides.{nat_tests}
use Rattle.std.proofs.lemmas.List.{take-map}
use Rattle.std.proofs.lemmas.List.Elements.{filter-append}
use Rattle.basil_types.specs.Built.{or_else}
use Rattle.basil_types.specs.declared.party.Decision.{Decision}
use Rattle.basil_types.specs.declared.party.Decision.TheVariants.{Commit, Abort}
use Rattle.basil_types.specs.Decision.{same_decision, is_commit}
use Rattle.basil_types.specs.Setting.{Setting}
use Rattle.basil_types.specs.Transaction.{TransactionValue}
use Rattle.frame_values.specs.declared.owned.parts.LogPart.{LogPart}
use Rattle.frame_values.specs.Owned.{log_value}
use Rattle.frame_views.specs.Values.{LogReplyValue, LogValue, CertificateValue, Commits, Logged}
use Rattle.node_steps.specs.Lists.{first_with, by_number}
use Rattle.quorum_laws.specs.Numbers.{log_quorum}
use Rattle.txn_meta.specs.Places.{log_shard}
use Rattle.client_recover.specs.declared.logs.Logs.{Logs}
use Rattle.client_recover.specs.declared.logs.LastLog.{LastLog}
use Rattle.client_recover.specs.declared.logs.Latest.{Latest}
use Rattle.client_recover.specs.Counting.{all_replicas, agrees, as_log}
use Rattle.client_recover.specs.Certifying.{certificate_of}
use Rattle.client_recover.specs.Pursuits.{later_reply, latest_by}
use Rattle.client_recover.specs.Kept.{as_part, as_latest}
use Rattle.client_recover.specs.Quorums.{earliest_by, logged_as}
use Rattle.client_recover.specs.Replies.{part_at, earliest_at, latest_at, says, earliest_of, latest_of, HoldsLogs, is_last, put_back}
use Rattle.client_recover.specs.Replies.{HasPlace, HoldsBefore, IsBefore, SameLogs, is_of, NotesFirst, latest_with, NotesLatest}
use Rattle.client_recover.proofs.Walks.{filter_map-option_map, map-map}

-- ---- one reply more, at the end

find-push : {A : Type 0} (q : A → Bool) (xs : List A) (x : A) → find q (xs ++ x ∷ []) ≡ or_else (find q xs) (cond (q x) (Some x) None)
find-push q [] x = refl
find-push {A} q (y ∷ ys) x = by (q y) (find-push q ys x)
  where
    by : (b : Bool) → find q (ys ++ x ∷ []) ≡ or_else (find q ys) (cond (q x) (Some x) None) →
        cond b (Some y) (find q (ys ++ x ∷ [])) ≡ or_else (cond b (Some y) (find q ys)) (cond (q x) (Some x) None)
    by true e = refl
    by false e = e

kept_of : (o : Option LogReplyValue) (r : LogReplyValue) (b : Bool) →
    option_map as_part (or_else o (cond b (Some r) None)) ≡ or_else (option_map as_part o) (cond b (Some (as_part r)) None)
kept_of (Some x) r b = refl
kept_of None r true = refl
kept_of None r false = refl

or_nothing : {A : Type 0} (o : Option A) → o ≡ or_else o None
or_nothing None = refl
or_nothing (Some a) = refl

earliest_of-push : (replies : List LogReplyValue) (r : LogReplyValue) (d : Decision) (view n : ℕ) →
    earliest_of (replies ++ r ∷ []) d view n
    ≡ or_else (earliest_of replies d view n) (cond (says d view r && (r.replica == n)) (Some (as_part r)) None)
earliest_of-push replies r d view n =
    ap (λ rs. option_map as_part (first_with (λ (x : LogReplyValue). x.replica) rs n)) (filter-append (says d view) replies (r ∷ []))
    ∙ by (says d view r)
  where
    before : List LogReplyValue
    before = filter (says d view) replies

    by : (b : Bool) → option_map as_part (first_with (λ (x : LogReplyValue). x.replica) (before ++ cond b (r ∷ []) []) n)
        ≡ or_else (option_map as_part (first_with (λ (x : LogReplyValue). x.replica) before n))
        (cond (b && (r.replica == n)) (Some (as_part r)) None)
    by true = ap (option_map as_part) (find-push (λ (x : LogReplyValue). x.replica == n) before r)
        ∙ kept_of (first_with (λ (x : LogReplyValue). x.replica) before n) r (r.replica == n)
    by false =
        ap (λ rs. option_map as_part (first_with (λ (x : LogReplyValue). x.replica) rs n)) (append-nil before)
        ∙ or_nothing (option_map as_part (first_with (λ (x : LogReplyValue). x.replica) before n))

-- ---- keys

key_decision : (a d : Decision) → beq (is_commit a) (is_commit d) ≡ same_decision d a
key_decision Commit Commit = refl
key_decision Commit Abort = refl
key_decision Abort Commit = refl
key_decision Abort Abort = refl

same_bit : (a d : Decision) → beq (is_commit a) (is_commit d) ≡ true → is_commit a ≡ is_commit d
same_bit Commit Commit e = refl
same_bit Commit Abort e = absurd cc
same_bit Abort Commit e = absurd cc
same_bit Abort Abort e = refl

is_of-says : (r : LogReplyValue) (d : Decision) (view n : ℕ) → is_of r d view n ≡ (says d view r && (r.replica == n))
is_of-says r d view n =
    ap (λ b. (b && (r.decided == view)) && (r.replica == n)) (key_decision r.decision d)
    ∙ ap (λ b. (same_decision d r.decision && b) && (r.replica == n)) (nat_eq_equiv.symm r.decided view)

is_of-key : (l : Logs) (r : LogReplyValue) (d : Decision) (view n : ℕ) → is_of r d view n ≡ true →
    earliest_at l d view n ≡ earliest_at l r.decision r.decided r.replica
is_of-key l r d view n e =
    let outer = and_parts (beq (is_commit r.decision) (is_commit d) && (r.decided == view)) (r.replica == n) e in
    let inner = and_parts (beq (is_commit r.decision) (is_commit d)) (r.decided == view) outer.0 in
    let bits : is_commit r.decision ≡ is_commit d = same_bit r.decision d inner.0 in
    let views : r.decided ≡ view = eqb-true r.decided view inner.1 in
    let replicas : r.replica ≡ n = eqb-true r.replica n outer.1 in
    sym (ap (λ b. part_at l.earliest (b, r.decided) r.replica) bits
    ∙ ap (λ v. part_at l.earliest (is_commit d, v) r.replica) views
    ∙ ap (λ m. part_at l.earliest (is_commit d, view) m) replicas)

no_item : {A : Type 0} (o : Option A) → false ≡ not (is_some o) → is_some o ≡ true
no_item None e = absurd cc
no_item (Some a) e = refl

an_item : {A : Type 0} (o : Option A) → true ≡ not (is_some o) → o ≡ None
an_item None e = refl
an_item (Some a) e = absurd cc

-- ---- the earliest ones

earliest-more : (old new : Logs) (replies : List LogReplyValue) (r : LogReplyValue) (first : Bool) → NotesFirst old new r first →
    HoldsLogs old replies →
    (d : Decision) (view n : ℕ) → earliest_at new d view n ≡ earliest_of (replies ++ r ∷ []) d view n
earliest-more old new replies r first notes held d view n =
    notes.earliest d view n
    ∙ by first (is_of r d view n) notes.is (is_of-key old r d view n)
    ∙ ap (λ o. or_else o (cond (is_of r d view n) (Some (as_part r)) None)) (held.earliest d view n)
    ∙ ap (λ b. or_else (earliest_of replies d view n) (cond b (Some (as_part r)) None)) (is_of-says r d view n)
    ∙ sym (earliest_of-push replies r d view n)
  where
    here : Option LogPart
    here = earliest_at old d view n

    some : (o : Option LogPart) → is_some o ≡ true → o ≡ or_else o (Some (as_part r))
    some None e = absurd cc
    some (Some a) e = refl

    by : (f b : Bool) → f ≡ not (is_some (earliest_at old r.decision r.decided r.replica)) →
        (b ≡ true → here ≡ earliest_at old r.decision r.decided r.replica) →
        cond (f && b) (Some (as_part r)) here ≡ or_else here (cond b (Some (as_part r)) None)
    by true true is key =
        sym (ap (λ o. or_else o (Some (as_part r))) (key refl ∙ an_item (earliest_at old r.decision r.decided r.replica) is))
    by true false is key = or_nothing here
    by false true is key = some here (ap is_some (key refl) ∙ no_item (earliest_at old r.decision r.decided r.replica) is)
    by false false is key = or_nothing here

earliest-undone : (old new : Logs) (r : LogReplyValue) (first : Bool) → NotesFirst old new r first →
    (d : Decision) (view n : ℕ) → cond (first && is_of r d view n) None (earliest_at new d view n) ≡ earliest_at old d view n
earliest-undone old new r first notes d view n =
    ap (cond (first && is_of r d view n) None) (notes.earliest d view n) ∙ by first (is_of r d view n) notes.is (is_of-key old r d view n)
  where
    here : Option LogPart
    here = earliest_at old d view n

    by : (f b : Bool) → f ≡ not (is_some (earliest_at old r.decision r.decided r.replica)) →
        (b ≡ true → here ≡ earliest_at old r.decision r.decided r.replica) →
        cond (f && b) None (cond (f && b) (Some (as_part r)) here) ≡ here
    by true true is key = sym (key refl ∙ an_item (earliest_at old r.decision r.decided r.replica) is)
    by true false is key = refl
    by false true is key = refl
    by false false is key = refl

-- ---- the latest ones

below_both : (x m r : ℕ) → nat_lt x m ≡ true → nat_lt m r ≡ true → nat_lt x r ≡ true
below_both x m r p q = grind (arith, nat_tests)

above_both : (x m r : ℕ) → nat_lt x m ≡ false → nat_lt m r ≡ false → nat_lt x r ≡ false
above_both x m r p q = grind (arith, nat_tests)

best_with : LogReplyValue → Option LogReplyValue → LogReplyValue
best_with r None = r
best_with r (Some best) = cond (nat_lt best.current r.current) r best

later-best : (x r : LogReplyValue) (o : Option LogReplyValue) → later_reply x (Some (best_with r o)) ≡ best_with r (Some (later_reply x o))
unfolding best_with
later-best x r None = refl
later-best x r (Some m) = by (nat_lt m.current r.current) (nat_lt x.current m.current) refl refl
  where
    by : (p q : Bool) → nat_lt m.current r.current ≡ p → nat_lt x.current m.current ≡ q →
        (let best : LogReplyValue = cond p r m in cond (nat_lt x.current best.current) best x)
        ≡ (let best : LogReplyValue = cond q m x in cond (nat_lt best.current r.current) r best)
    by true true e k = ap (λ b. cond b r x) (below_both x.current m.current r.current k e) ∙ sym (ap (λ b. cond b r m) e)
    by true false e k = refl
    by false true e k = ap (λ b. cond b m x) k ∙ sym (ap (λ b. cond b r m) e)
    by false false e k = ap (λ b. cond b m x) k ∙ sym (ap (λ b. cond b r x) (above_both x.current m.current r.current k e))

latest_by-push : (rs : List LogReplyValue) (r : LogReplyValue) (n : ℕ) →
    latest_by (rs ++ r ∷ []) n ≡ cond (r.replica == n) (Some (best_with r (latest_by rs n))) (latest_by rs n)
unfolding best_with
latest_by-push [] r n = refl
latest_by-push (x ∷ rs) r n = by (x.replica == n) (r.replica == n) (latest_by-push rs r n)
  where
    by : (a b : Bool) → latest_by (rs ++ r ∷ []) n ≡ cond b (Some (best_with r (latest_by rs n))) (latest_by rs n) →
        cond a (Some (later_reply x (latest_by (rs ++ r ∷ []) n))) (latest_by (rs ++ r ∷ []) n)
        ≡ cond b (Some (best_with r (cond a (Some (later_reply x (latest_by rs n))) (latest_by rs n))))
        (cond a (Some (later_reply x (latest_by rs n))) (latest_by rs n))
    by true true e = ap (λ o. Some (later_reply x o)) e ∙ ap Some (later-best x r (latest_by rs n))
    by true false e = ap (λ o. Some (later_reply x o)) e
    by false true e = e
    by false false e = e

kept_best : (r : LogReplyValue) (o : Option LogReplyValue) → Some (as_latest (best_with r o)) ≡ latest_with r (option_map as_latest o)
unfolding best_with
kept_best r None = refl
kept_best r (Some m) = by (nat_lt m.current r.current)
  where
    by : (b : Bool) → Some (as_latest (cond b r m)) ≡ cond b (Some (as_latest r)) (Some (as_latest m))
    by true = refl
    by false = refl

latest_of-push : (replies : List LogReplyValue) (r : LogReplyValue) (n : ℕ) →
    latest_of (replies ++ r ∷ []) n ≡ cond (r.replica == n) (latest_with r (latest_of replies n)) (latest_of replies n)
latest_of-push replies r n = ap (option_map as_latest) (latest_by-push replies r n) ∙ by (r.replica == n)
  where
    by : (b : Bool) →
        option_map as_latest (cond b (Some (best_with r (latest_by replies n))) (latest_by replies n))
        ≡ cond b (latest_with r (latest_of replies n)) (latest_of replies n)
    by true = kept_best r (latest_by replies n)
    by false = refl

latest-more : (old new : Logs) (replies : List LogReplyValue) (r : LogReplyValue) (before : Latest) → NotesLatest old new r before →
    HoldsLogs old replies →
    (n : ℕ) → latest_at new n ≡ latest_of (replies ++ r ∷ []) n
latest-more old new replies r before notes held n =
    notes.latest n ∙ ap (λ o. cond (r.replica == n) (latest_with r o) o) (held.latest n) ∙ sym (latest_of-push replies r n)

latest-undone : (old new : Logs) (r : LogReplyValue) (before : Latest) → NotesLatest old new r before →
    (n : ℕ) → cond (r.replica == n) (put_back before (latest_at new n)) (latest_at new n) ≡ latest_at old n
latest-undone old new r before notes n = by (cases_Bool (r.replica == n))
  where
    by : ((r.replica == n) ≡ true) ⊎ ((r.replica == n) ≡ false) →
        cond (r.replica == n) (put_back before (latest_at new n)) (latest_at new n) ≡ latest_at old n
    by (inl e) =
        ap (λ b. cond b (put_back before (latest_at new n)) (latest_at new n)) e
        ∙ subst (λ m. put_back before (latest_at new m) ≡ latest_at old m) (eqb-true r.replica n e) notes.back
    by (inr e) =
        ap (λ b. cond b (put_back before (latest_at new n)) (latest_at new n)) e ∙ notes.latest n
        ∙ ap (λ b. cond b (latest_with r (latest_at old n)) (latest_at old n)) e

-- ---- a log reply is taken in two steps, and then counted

pub held_more : (old middle new : Logs) (replies : List LogReplyValue) (r : LogReplyValue) (first : Bool) (before : Latest) →
    NotesFirst old middle r first → NotesLatest middle new r before → HoldsLogs old replies → (counted : Logs) →
    counted.earliest ≡ new.earliest → counted.latest ≡ new.latest →
    counted.count ≡ new.count + 1 → HoldsLogs counted (replies ++ r ∷ [])
held_more old middle new replies r first before notes later held counted same_earliest same_latest one =
    let middle_latest : (n : ℕ) → latest_at middle n ≡ latest_of replies n = λ n. notes.latest n ∙ held.latest n in
    record {
      earliest =
          λ d view n. ap (λ m. part_at m (is_commit d, view) n) same_earliest ∙ later.earliest d view n
          ∙ earliest-more old middle replies r first notes held d view n;
      latest = λ n. ap (λ m. Rattle.indexmap.specs.IndexMap.get nat_eq m n) same_latest ∙ later.latest n
          ∙ ap (λ o. cond (r.replica == n) (latest_with r o) o) (middle_latest n) ∙ sym (latest_of-push replies r n);
      count = one ∙ ap (λ k. k + 1) (later.count ∙ notes.count ∙ held.count) ∙ sym (length-append replies (r ∷ []));
    }

pub is_before : (old middle new : Logs) (r : LogReplyValue) (first : Bool) (before : Latest) →
    NotesFirst old middle r first → NotesLatest middle new r before → (counted : Logs) → counted.earliest ≡ new.earliest →
    counted.latest ≡ new.latest →
    counted.count ≡ new.count + 1 →
    IsBefore (record { decision = r.decision; decided = r.decided; replica = r.replica; first = first; latest = before }) old counted
is_before old middle new r first before notes later counted same_earliest same_latest one =
    record {
      earliest = λ d view n.
          ap (λ m. cond (first && is_of r d view n) None
          (part_at m (is_commit d, view) n)) same_earliest
          ∙ ap (cond (first && is_of r d view n) None) (later.earliest d view n) ∙ earliest-undone old middle r first notes d view n;
      latest = λ n.
          ap (λ m. cond (r.replica == n) (put_back before (Rattle.indexmap.specs.IndexMap.get nat_eq m n))
          (Rattle.indexmap.specs.IndexMap.get nat_eq m n)) same_latest
          ∙ latest-undone middle new r before later n ∙ notes.latest n;
      there = subst (λ m. HasPlace before (Rattle.indexmap.specs.IndexMap.get nat_eq m r.replica)) (sym same_latest) later.there;
      count = one ∙ ap (λ k. k + 1) (later.count ∙ notes.count);
    }

pub before_holds : (last : LastLog) (old new : Logs) (replies : List LogReplyValue) → IsBefore last old new → HoldsLogs old replies →
    HoldsBefore last new replies
before_holds last old new replies b held =
    record {
      earliest = λ d view n. b.earliest d view n ∙ held.earliest d view n;
      latest = λ n. b.latest n ∙ held.latest n;
      there = b.there;
      count = b.count ∙ ap (λ k. k + 1) held.count;
    }

-- ---- what is alike holds alike

pub held_same : (old new : Logs) (replies : List LogReplyValue) → SameLogs old new → HoldsLogs old replies → HoldsLogs new replies
held_same old new replies s held =
    record {
      earliest = λ d view n. s.earliest d view n ∙ held.earliest d view n;
      latest = λ n. s.latest n ∙ held.latest n;
      count = s.count ∙ held.count;
    }

pub back_same : (old new : Logs) (last : LastLog) (replies : List LogReplyValue) → SameLogs old new → HoldsBefore last old replies →
    HoldsBefore last new replies
back_same old new last replies s held =
    record {
      earliest = λ d view n. ap (cond (last.first && is_last last d view n) None) (s.earliest d view n) ∙ held.earliest d view n;
      latest = λ n. ap (λ o. cond (last.replica == n) (put_back last.latest o) o) (s.latest n) ∙ held.latest n;
      there = subst (HasPlace last.latest) (sym (s.latest last.replica)) held.there;
      count = s.count ∙ held.count;
    }

-- ---- quorums

-- of each replica, ascending, the earliest reply that agrees with this one
abbrev pub logs_of : Setting → List LogReplyValue → LogReplyValue → List LogValue
logs_of c replies r = map as_log (by_number (λ (x : LogReplyValue). x.replica) (all_replicas c) (filter (agrees r) replies))

abbrev pub has_of : Setting → List LogReplyValue → LogReplyValue → Bool
has_of c replies r = nat_le (log_quorum c.f) (length (logs_of c replies r))

abbrev pub certificate_by_logs : Setting → TransactionValue → List LogReplyValue → LogReplyValue → CertificateValue
certificate_by_logs c t replies r =
    certificate_of t
    (Commits (Logged (record {
      shard = log_shard c t;
      decision = r.decision;
      decided = r.decided;
      logs = take (log_quorum c.f) (logs_of c replies r);
    })))

abbrev pub by_logs : Setting → TransactionValue → List LogReplyValue → Option CertificateValue
by_logs c t replies = option_map (certificate_by_logs c t replies) (find (has_of c replies) replies)

earliest_by-held : (c : Setting) (l : Logs) (replies : List LogReplyValue) (r : LogReplyValue) → HoldsLogs l replies →
    earliest_by c l r.decision r.decided
    ≡ map as_part (by_number (λ (x : LogReplyValue). x.replica) (all_replicas c) (filter (agrees r) replies))
earliest_by-held c l replies r held =
    ap (λ (f : ℕ → Option LogPart). filter_map f (all_replicas c)) (λ i n. held.earliest r.decision r.decided n i)
    ∙ filter_map-option_map as_part (first_with (λ (x : LogReplyValue). x.replica) (filter (agrees r) replies)) (all_replicas c)

pub logged-held : (c : Setting) (t : TransactionValue) (l : Logs) (replies : List LogReplyValue) (r : LogReplyValue) → HoldsLogs l replies →
    logged_as c t l r.decision r.decided ≡ cond (has_of c replies r) (Some (certificate_by_logs c t replies r)) None
logged-held c t l replies r held =
    let quorum = log_quorum c.f in
    let all = by_number (λ (x : LogReplyValue). x.replica) (all_replicas c) (filter (agrees r) replies) in
    let Made : List LogPart → Option CertificateValue = λ parts.
    cond (nat_le quorum (length parts))
    (Some (certificate_of t
    (Commits
    (Logged (record {
      shard = log_shard c t;
      decision = r.decision;
      decided = r.decided;
      logs = map log_value
          (take quorum parts);
    }))))) None in
    let count : length (map as_part all) ≡ length (map as_log all) = length-map all as_part ∙ sym (length-map all as_log) in
    let listed : map log_value (take quorum (map as_part all)) ≡ take quorum (map as_log all) =
    ap (map log_value) (take-map as_part quorum all) ∙ map-map as_part log_value (take quorum all) ∙ sym (take-map as_log quorum all) in
    ap Made (earliest_by-held c l replies r held)
    ∙ ap (λ n. cond (nat_le quorum n) (Some (certificate_of t
    (Commits
    (Logged (record {
      shard = log_shard c t;
      decision = r.decision;
      decided = r.decided;
      logs = map log_value
          (take quorum (map as_part all));
    }))))) None) count
    ∙ ap (λ (logs : List LogValue). cond (nat_le quorum (length (map as_log all))) (Some (certificate_of t
    (Commits (Logged (record { shard = log_shard c t; decision = r.decision; decided = r.decided; logs = logs }))))) None) listed

-- ---- the reply that makes a quorum

abbrev Agree : LogReplyValue → LogReplyValue → Type 0
Agree a b = (a.decision ≡ b.decision) × (a.decided ≡ b.decided)

same_decisions : (a b : Decision) → same_decision a b ≡ true → a ≡ b
same_decisions Commit Commit e = refl
same_decisions Commit Abort e = absurd cc
same_decisions Abort Commit e = absurd cc
same_decisions Abort Abort e = refl

agree_is : (a b : LogReplyValue) → agrees a b ≡ true → Agree a b
agree_is a b e =
    let parts = and_parts (same_decision a.decision b.decision) (a.decided == b.decided) e in
    (same_decisions a.decision b.decision parts.0, eqb-true a.decided b.decided parts.1)

-- a reply alone, for what says the same
abbrev Told : Setting → TransactionValue → List LogReplyValue → Decision → ℕ → Option CertificateValue
Told c t replies d view =
    let logs = map as_log (by_number (λ (x : LogReplyValue). x.replica) (all_replicas c) (filter (says d view) replies)) in
    cond (nat_le (log_quorum c.f) (length logs))
    (Some (certificate_of t
    (Commits (Logged (record { shard = log_shard c t; decision = d; decided = view; logs = take (log_quorum c.f) logs }))))) None

told_alike : (c : Setting) (t : TransactionValue) (replies : List LogReplyValue) (a b : LogReplyValue) → Agree a b →
    Told c t replies a.decision a.decided ≡ Told c t replies b.decision b.decided
told_alike c t replies a b e = ap (λ d. Told c t replies d a.decided) e.0 ∙ ap (λ v. Told c t replies b.decision v) e.1

has_alike : (c : Setting) (replies : List LogReplyValue) (a b : LogReplyValue) → Agree a b → has_of c replies a ≡ has_of c replies b
has_alike c replies a b e =
    ap (λ d. nat_le (log_quorum c.f)
    (length (map as_log (by_number (λ (x : LogReplyValue). x.replica) (all_replicas c) (filter (says d a.decided) replies))))) e.0
    ∙ ap (λ v. nat_le (log_quorum c.f)
    (length (map as_log (by_number (λ (x : LogReplyValue). x.replica) (all_replicas c) (filter (says b.decision v) replies))))) e.1

filter-other : (replies : List LogReplyValue) (a r : LogReplyValue) → agrees a r ≡ false →
    filter (agrees a) (replies ++ r ∷ []) ≡ filter (agrees a) replies
filter-other replies a r e =
    filter-append (agrees a) replies (r ∷ []) ∙ ap (λ b. filter (agrees a) replies ++ cond b (r ∷ []) []) e
    ∙ append-nil (filter (agrees a) replies)

has-other : (c : Setting) (replies : List LogReplyValue) (a r : LogReplyValue) → agrees a r ≡ false →
    has_of c (replies ++ r ∷ []) a ≡ has_of c replies a
has-other c replies a r e =
    ap (λ rs. nat_le (log_quorum c.f) (length (map as_log (by_number (λ (x : LogReplyValue). x.replica) (all_replicas c) rs))))
    (filter-other replies a r e)

-- a search that begins with this reply finds what the last one says
abbrev Searched : Setting → TransactionValue → List LogReplyValue → List LogReplyValue → (a r : LogReplyValue) → Bool → Type 0
Searched c t all some a r b =
    option_map (certificate_by_logs c t all) (cond b (Some a) (find (has_of c all) (some ++ r ∷ [])))
    ≡ cond (has_of c all r) (Some (certificate_by_logs c t all r)) None

-- none of these had a quorum before
search_more : (c : Setting) (t : TransactionValue) (replies : List LogReplyValue) (r : LogReplyValue) (some : List LogReplyValue) →
    find (has_of c replies) some ≡ None →
    option_map (certificate_by_logs c t (replies ++ r ∷ [])) (find (has_of c (replies ++ r ∷ [])) (some ++ r ∷ []))
    ≡ cond (has_of c (replies ++ r ∷ []) r) (Some (certificate_by_logs c t (replies ++ r ∷ []) r)) None
search_more c t replies r [] none = by (has_of c (replies ++ r ∷ []) r)
  where
    by : (b : Bool) →
        option_map (certificate_by_logs c t (replies ++ r ∷ [])) (cond b (Some r) None)
        ≡ cond b (Some (certificate_by_logs c t (replies ++ r ∷ []) r)) None
    by true = refl
    by false = refl
search_more c t replies r (a ∷ some) none = apart (has_of c replies a) refl none (search_more c t replies r some)
  where
    agreeing : (b : Bool) → has_of c (replies ++ r ∷ []) a ≡ b → Agree a r → Searched c t (replies ++ r ∷ []) some a r false →
        Searched c t (replies ++ r ∷ []) some a r b
    agreeing true e k rest =
        sym (ap (λ b. cond b (Some (certificate_by_logs c t (replies ++ r ∷ []) a)) None) e) ∙ told_alike c t (replies ++ r ∷ []) a r k
    agreeing false e k rest = rest

    by : (b : Bool) → agrees a r ≡ b → has_of c replies a ≡ false → Searched c t (replies ++ r ∷ []) some a r false →
        Searched c t (replies ++ r ∷ []) some a r (has_of c (replies ++ r ∷ []) a)
    by true e h rest = agreeing (has_of c (replies ++ r ∷ []) a) refl (agree_is a r e) rest
    by false e h rest = subst (Searched c t (replies ++ r ∷ []) some a r) (sym (has-other c replies a r e ∙ h)) rest

    apart : (b : Bool) → has_of c replies a ≡ b → cond b (Some a) (find (has_of c replies) some) ≡ None →
        (find (has_of c replies) some ≡ None → Searched c t (replies ++ r ∷ []) some a r false) →
        Searched c t (replies ++ r ∷ []) some a r (has_of c (replies ++ r ∷ []) a)
    apart true h e rest = absurd cc
    apart false h e rest = by (agrees a r) refl h (rest e)

pub by_logs-push : (c : Setting) (t : TransactionValue) (replies : List LogReplyValue) (r : LogReplyValue) → by_logs c t replies ≡ None →
    by_logs c t (replies ++ r ∷ []) ≡ cond (has_of c (replies ++ r ∷ []) r) (Some (certificate_by_logs c t (replies ++ r ∷ []) r)) None
by_logs-push c t replies r none =
    search_more c t replies r replies
    (Rattle.client_recover.proofs.Walks.none_of_map (certificate_by_logs c t replies) (find (has_of c replies) replies) none)
