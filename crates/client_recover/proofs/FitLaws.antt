-- What is made of what is kept has a spelling.
use Rattle.std.proofs.Common.{◌≡◌, ℕ, zero, suc, ◌+◌, ◌≤◌, ◌<◌, ◌^◌, Bool, true, false, cond, List, [], ◌∷◌, length, map, take, Option}
use Rattle.std.proofs.Common.{Some, None, Fits, w64, refl, sym, ap, subst, ◌∙◌, arith}
use Rattle.std.specs.Prelude.{filter_map, find, ◌==◌, option_map, nat_le}
use Rattle.std.specs.List.{All, range_with_len, cons_option}
use Rattle.std.specs.Option.{ForSome}
use Rattle.std.proofs.Math.ListN.{length-map}
use Rattle.std.proofs.lemmas.Bool.{eqb-true}
use Rattle.std.proofs.lemmas.List.{length-take}
use Rattle.std.proofs.lemmas.List.Elements.{All-head, All-tail, All-filter}
use Rattle.basil_types.specs.Built.{or_else}
use Rattle.basil_types.specs.declared.party.Decision.{Decision}
use Rattle.basil_types.specs.declared.party.Decision.TheVariants.{Commit, Abort}
use Rattle.basil_types.specs.Lists.{AreItems}
use Rattle.basil_types.specs.Setting.{Setting, IsSetting}
use Rattle.basil_types.specs.Transaction.{TransactionValue, IsTransaction, id}
use Rattle.frame_values.specs.declared.owned.message.Message.{Message}
use Rattle.frame_values.specs.Owned.{log_value, reply_value, message_value}
use Rattle.frame_views.specs.declared.bounds.Bounds.{Bounds}
use Rattle.frame_views.specs.Fitting.{widest, is_abort, is_commit, IsId, IsSignature, AreCounted, FitsPart, after_vote, after_tally}
use Rattle.frame_views.specs.Fitting.{after_log, after_reply}
use Rattle.frame_views.specs.Fitting.{FitsVote, FitsTally, FitsTallies, FitsLog, FitsReply, FitsBody, FitsCommit, FitsCertificate}
use Rattle.frame_views.specs.Fitting.{FitsCommitted, FitsVoted, FitsMessage}
use Rattle.frame_views.specs.Values.{VotedValue, CommittedValue, BodyValue, Commits, FastCommit, FastAbort}
use Rattle.frame_views.specs.Values.{ConflictAbort, Logged, MessageValue, commit_with}
use Rattle.node_steps.specs.Lists.{first_with}
use Rattle.quorum_laws.specs.Numbers.{replicas, fast_commit, commit_tally, abort_tally, fast_abort, log_quorum}
use Rattle.txn_meta.specs.Places.{members_from, marks_of, involved, log_shard}
use Rattle.client_recover.specs.declared.logs.Logs.{Logs}
use Rattle.client_recover.specs.declared.second.ToLog.{ToLog}
use Rattle.client_recover.specs.declared.votes.CountedVote.{CountedVote}
use Rattle.client_recover.specs.Taken.{LogsValue}
use Rattle.client_recover.specs.Certifying.{certificate_of, conflict_by, conflict_with}
use Rattle.client_recover.specs.Pursuits.{second_stage}
use Rattle.client_recover.specs.Kept.{is_so, votes_so, are_enough, part_of, tally, each_enough, tallies, certified, fast_commit_by}
use Rattle.client_recover.specs.Kept.{fast_abort_of, fast_by, commit_logged, abort_logged, logged_by}
use Rattle.client_recover.specs.Owned.{logged_value, unstarted, invoked}
use Rattle.client_recover.specs.Quorums.{earliest_by, logged_as}
use Rattle.client_recover.specs.Replies.{earliest_at, latest_at}
use Rattle.client_recover.specs.Writable.{IsSigned, AreSigned, AreSound}

-- ---- the one or the other

some_is : {A : Type 0} (x y : A) → Some x ≡ Some y → x ≡ y
some_is x y e = cc

pub for_one : {A : Type 0} (P : A → Type 0) (a : A) → P a → ForSome (Some a) P
for_one P a p x e = subst P (some_is a x e) p

pub for_none : {A : Type 0} (P : A → Type 0) → ForSome None P
for_none P x e = absurd cc

pub for_either : {A : Type 0} (P : A → Type 0) (o k : Option A) → ForSome o P → ForSome k P → ForSome (or_else o k) P
for_either P None k p q = q
for_either P (Some a) k p q = p

for_chosen : {A : Type 0} (P : A → Type 0) (b : Bool) (a : A) → P a → ForSome (cond b (Some a) None) P
for_chosen P true a p = for_one P a p
for_chosen P false a p = for_none P

-- ---- the first that passes a test

pub find_all : {A : Type 0} (P : A → Type 0) (q : A → Bool) (xs : List A) → All P xs → (a : A) → find q xs ≡ Some a → P a × (q a ≡ true)
find_all P q [] all a e = absurd cc
find_all {A} P q (x ∷ xs) all a e = by (q x) refl e (find_all P q xs (All-tail P x xs all) a)
  where
    by : (b : Bool) → q x ≡ b → cond b (Some x) (find q xs) ≡ Some a → (find q xs ≡ Some a → P a × (q a ≡ true)) → P a × (q a ≡ true)
    by true is e rest =
        let same : x ≡ a = some_is x a e in
        (subst P same (All-head P x xs all), ap q (sym same) ∙ is)
    by false is e rest = rest e

-- ---- items with the numbers that give them

-- what a number gives stands at it, and asks for the next number
abbrev Numbered : {A V : Type 0} → (ℕ → V → Type 0) → (V → ℕ) → (ℕ → Option A) → (A → V) → Type 0
Numbered {A} {V} Fit next f g =
    (n : ℕ) → n < 256 → ForSome (f n) (λ a. (next (g a) ≡ n + 1) × ((floor : ℕ) → floor ≤ n → Fit floor (g a)))

given_items : {A V : Type 0} (Fit : ℕ → V → Type 0) (next : V → ℕ) (f : ℕ → Option A) (g : A → V) → Numbered Fit next f g →
    (count from floor : ℕ) → floor ≤ from → from + count ≤ 256 → AreItems Fit next floor (map g (filter_map f (range_with_len from count)))
given_items Fit next f g each zero from floor h k = tt
given_items {A} {V} Fit next f g each (suc count) from floor h k =
    by (f from) (each from (omega (arith, k))) (λ low l. given_items Fit next f g each count (from + 1) low l (omega (arith, k)))
  where
    rest : List A
    rest = filter_map f (range_with_len (from + 1) count)

    by : (o : Option A) → ForSome o (λ a. (next (g a) ≡ from + 1) × ((floor : ℕ) → floor ≤ from → Fit floor (g a))) →
        ((low : ℕ) → low ≤ from + 1 → AreItems Fit next low (map g rest)) → AreItems Fit next floor (map g (cons_option o rest))
    by None one more = more floor (omega (arith, h))
    by (Some a) one more =
        let is = one a refl in
        (is.1 floor h, more (next (g a)) (omega (arith, is.0)))

items_take : {A V : Type 0} (Fit : ℕ → V → Type 0) (next : V → ℕ) (g : A → V) (k floor : ℕ) (xs : List A) →
    AreItems Fit next floor (map g xs) → AreItems Fit next floor (map g (take k xs))
items_take Fit next g zero floor xs h = tt
items_take Fit next g (suc k) floor [] h = tt
items_take Fit next g (suc k) floor (x ∷ xs) h = (h.0, items_take Fit next g k (next (g x)) xs h.1)

given_few : {A : Type 0} (f : ℕ → Option A) (count from : ℕ) → length (filter_map f (range_with_len from count)) ≤ count
given_few f zero from = omega arith
given_few {A} f (suc count) from = by (f from) (given_few f count (from + 1))
  where
    rest : List A
    rest = filter_map f (range_with_len (from + 1) count)

    by : (o : Option A) → length rest ≤ count → length (cons_option o rest) ≤ suc count
    by None h = omega (arith, h)
    by (Some a) h = omega (arith, h)

given_counted : {A V : Type 0} (Fit : ℕ → V → Type 0) (next : V → ℕ) (f : ℕ → Option A) (g : A → V) → Numbered Fit next f g →
    (top : ℕ) → top < 256 → AreCounted Fit next (map g (filter_map f (range_with_len 0 top)))
given_counted Fit next f g each top few =
    record {
      count = omega (arith, few, length-map (filter_map f (range_with_len 0 top)) g, given_few f top 0);
      each = given_items Fit next f g each top 0 0 (omega arith) (omega (arith, few));
    }

taken_counted : {A V : Type 0} (Fit : ℕ → V → Type 0) (next : V → ℕ) (f : ℕ → Option A) (g : A → V) → Numbered Fit next f g →
    (needed top : ℕ) → top < 256 → AreCounted Fit next (map g (take needed (filter_map f (range_with_len 0 top))))
taken_counted Fit next f g each needed top few =
    let all = filter_map f (range_with_len 0 top) in
    record {
      count = omega (arith, few, length-map (take needed all) g, length-take needed all, given_few f top 0);
      each = items_take Fit next g needed 0 all (given_items Fit next f g each top 0 0 (omega arith) (omega (arith, few)));
    }

few_replicas : (c : Setting) → IsSetting c → replicas c.f < 256
few_replicas c is = omega (arith, is.faulty)

-- ---- tallies

voters : (votes : List CountedVote) → AreSigned votes → (d : Decision) (shard : ℕ) →
    Numbered (FitsVote widest) after_vote (first_with (λ (v : CountedVote). v.replica) (votes_so votes d shard)) part_of
voters votes signed d shard n h v e =
    let of = votes_so votes d shard in
    let found = find_all IsSigned (λ (v : CountedVote). v.replica == n) of (All-filter (is_so shard d) IsSigned votes signed) v e in
    let same : v.replica ≡ n = eqb-true v.replica n found.1 in
    (ap (λ k. k + 1) same, λ floor k. record { above = omega (arith, same, k); below = omega (arith, same, h); signature = found.0 })

pub tally_fits : (c : Setting) → IsSetting c → (votes : List CountedVote) → AreSigned votes → (d : Decision) (needed shard floor : ℕ) →
    floor ≤ shard → shard < 256 →
    FitsTally widest floor (tally c votes d needed shard)
tally_fits c is votes signed d needed shard floor above below =
    record {
      above = above;
      below = below;
      votes = taken_counted (FitsVote widest) after_vote (first_with (λ (v : CountedVote). v.replica) (votes_so votes d shard)) part_of
          (voters votes signed d shard) needed (replicas c.f) (few_replicas c is);
    }

-- ---- shards, ascending

abbrev pub IsShard : ℕ → ℕ → Type 0
IsShard floor s = (floor ≤ s) × (s < 8)

abbrev pub after_shard : ℕ → ℕ
after_shard s = s + 1

abbrev pub AreShards : List ℕ → Type 0
AreShards shards = AreItems IsShard after_shard 0 shards

marked : (marks : List Bool) (from floor : ℕ) → floor ≤ from → from + length marks ≤ 8 →
    AreItems IsShard after_shard floor (members_from from marks)
marked [] from floor h k = tt
marked (true ∷ marks) from floor h k =
    ((h, omega (arith, k)), marked marks (from + 1) (from + 1) (omega arith) (omega (arith, k)))
marked (false ∷ marks) from floor h k = marked marks (from + 1) floor (omega (arith, h)) (omega (arith, k))

eight : (marks : List Bool) → length marks ≡ 8 → AreShards (members_from 0 marks)
eight marks e = marked marks 0 0 (omega arith) (omega (arith, e))

pub involved_shards : (c : Setting) (t : TransactionValue) → AreShards (involved c t)
involved_shards c t = eight (marks_of c t) refl

few_shards : (shards : List ℕ) (floor : ℕ) → floor ≤ 8 → AreItems IsShard after_shard floor shards → floor + length shards ≤ 8
few_shards [] floor h are = omega (arith, h)
few_shards (s ∷ ss) floor h are = omega (arith, are.0.0, few_shards ss (s + 1) (omega (arith, are.0.1)) are.1)

found_below : (p : ℕ → Bool) (shards : List ℕ) (floor : ℕ) → AreItems IsShard after_shard floor shards → ForSome (find p shards)
    (λ s. s < 256)
found_below p [] floor are = for_none (λ s. s < 256)
found_below p (s ∷ ss) floor are = by (p s) (found_below p ss (s + 1) are.1)
  where
    by : (b : Bool) → ForSome (find p ss) (λ s. s < 256) → ForSome (cond b (Some s) (find p ss)) (λ s. s < 256)
    by true rest = for_one (λ s. s < 256) s (omega (arith, are.0.1))
    by false rest = rest

tallies_items : (c : Setting) → IsSetting c → (votes : List CountedVote) → AreSigned votes → (d : Decision) (needed : ℕ) (shards : List ℕ)
    (floor : ℕ) →
    AreItems IsShard after_shard floor shards → AreItems (FitsTally widest) after_tally floor (map (tally c votes d needed) shards)
tallies_items c is votes signed d needed [] floor are = tt
tallies_items c is votes signed d needed (s ∷ ss) floor are = (
  tally_fits c is votes signed d needed s floor are.0.0 (omega (arith, are.0.1)),
  tallies_items c is votes signed d needed ss
      (s + 1) are.1,
)

tallies_fit : (c : Setting) → IsSetting c → (shards : List ℕ) → AreShards shards → (votes : List CountedVote) → AreSigned votes →
    (d : Decision) (needed : ℕ) →
    FitsTallies widest (tallies c shards votes d needed)
tallies_fit c is shards are votes signed d needed =
    record {
      count = omega (arith, length-map shards (tally c votes d needed), few_shards shards 0 (omega arith) are);
      each = tallies_items c is votes signed d needed shards 0 are;
    }

-- ---- what votes decide

fast_abort_fits : (c : Setting) → IsSetting c → (named : List ℕ) (votes : List CountedVote) → AreSigned votes → IsId named →
    (lowest : Option ℕ) →
    ForSome lowest (λ s. s < 256) → ForSome (fast_abort_of c named votes lowest) (FitsCertificate widest)
fast_abort_fits c is named votes signed i None below = for_none (FitsCertificate widest)
fast_abort_fits c is named votes signed i (Some shard) below =
    for_one (FitsCertificate widest) (certified named (FastAbort (tally c votes Abort (fast_abort c.f) shard)))
    (record { id = i; body = tally_fits c is votes signed Abort (fast_abort c.f) shard 0 (omega arith) (below shard refl) })

pub fast_fits : (c : Setting) → IsSetting c → (shards : List ℕ) → AreShards shards → (named : List ℕ) (votes : List CountedVote) →
    AreSigned votes → IsId named →
    ForSome (fast_by c named shards votes) (FitsCertificate widest)
fast_fits c is shards are named votes signed i =
    let enough = are_enough votes Abort (fast_abort c.f) in
    for_either (FitsCertificate widest) (fast_commit_by c named shards votes) (fast_abort_of c named votes (find enough shards))
    (for_chosen (FitsCertificate widest) (each_enough shards votes Commit (fast_commit c.f))
    (certified named (Commits (FastCommit (tallies c shards votes Commit (fast_commit c.f)))))
    (record { id = i; body = tallies_fit c is shards are votes signed Commit (fast_commit c.f) }))
    (fast_abort_fits c is named votes signed i (find enough shards) (found_below enough shards 0 are))

-- ---- what votes let be logged

abort_fits : (c : Setting) → IsSetting c → (votes : List CountedVote) → AreSigned votes → (lowest : Option ℕ) → ForSome lowest
    (λ s. s < 256) →
    ForSome (abort_logged c votes lowest) (λ l. FitsTallies widest l.tallies)
abort_fits c is votes signed None below = for_none (λ (l : LogsValue). FitsTallies widest l.tallies)
abort_fits c is votes signed (Some shard) below =
    for_one (λ (l : LogsValue). FitsTallies widest l.tallies)
    (record { decision = Abort; tallies = tally c votes Abort (abort_tally c.f) shard ∷ [] })
    (record {
      count = omega arith;
      each =
          (tally_fits c is votes signed Abort (abort_tally c.f) shard 0 (omega arith) (below shard refl), tt);
    })

pub logged_fits : (c : Setting) → IsSetting c → (shards : List ℕ) → AreShards shards → (votes : List CountedVote) → AreSigned votes →
    ForSome (logged_by c shards votes) (λ l. FitsTallies widest l.tallies)
logged_fits c is shards are votes signed =
    let enough = are_enough votes Abort (abort_tally c.f) in
    for_either (λ (l : LogsValue). FitsTallies widest l.tallies) (commit_logged c shards votes) (abort_logged c votes (find enough shards))
    (for_chosen (λ (l : LogsValue). FitsTallies widest l.tallies) (each_enough shards votes Commit (commit_tally c.f))
    (record { decision = Commit; tallies = tallies c shards votes Commit (commit_tally c.f) })
    (tallies_fit c is shards are votes signed Commit (commit_tally c.f)))
    (abort_fits c is votes signed (find enough shards) (found_below enough shards 0 are))

-- ---- a vote with a proof

commit_fits : (b : Bounds) (named : List ℕ) (body : BodyValue) → is_commit body ≡ true → IsId named → FitsBody b body → FitsCommit b
    (commit_with named body)
commit_fits b named (Commits body) e i fits = record { id = i; body = fits }
commit_fits b named (FastAbort tally) e i fits = absurd cc
commit_fits b named (ConflictAbort c) e i fits = absurd cc

pub conflict_fits : (b : Bounds) (t : TransactionValue) (v : VotedValue) → FitsVoted b v → IsId (id t) → ForSome (conflict_by t v)
    (FitsCertificate b)
conflict_fits b t v fits i = by v.proof fits.proof
  where
    by : (o : Option CommittedValue) → FitsPart (is_abort v.decision) (FitsCommitted b) o → ForSome (option_map (conflict_with t v) o)
        (FitsCertificate b)
    by None proof = for_none (FitsCertificate b)
    by (Some rival) proof =
        let is = proof.1 in
        for_one (FitsCertificate b) (conflict_with t v rival)
        (record {
          id = i;
          body = record {
            shard = fits.shard;
            replica = fits.replica;
            signature = fits.signature;
            other = is.transaction;
            proof = commit_fits b rival.certificate.id rival.certificate.body is.commits is.certificate.id is.certificate.body;
          };
        })

-- ---- what log replies decide, and an invoke

pub small_number : (n : ℕ) → Fits w64 n → n < 2 ^ 64
small_number n h = omega (arith, h)

-- a shard of a cluster is a number of one byte
pub low_shard : (found shard shards : ℕ) → found ≡ shard → found < shards → shards ≤ 8 → shard < 256
low_shard found shard shards e h few = omega (arith, e, h, few)

loggers : (l : Logs) → AreSound l → (d : Decision) (view : ℕ) → Numbered (FitsLog widest view) after_log (earliest_at l d view) log_value
loggers l sound d view n h p e =
    let is = sound.earliest d view n p e in (
      ap (λ k. k + 1) is.numbered,
      λ floor k. record {
        above = omega (arith, is.numbered, k);
        below = omega
            (arith, is.numbered, h);
        later = is.later;
        current = is.current;
        signature = is.signature;
      },
    )

pub quorum_fits : (c : Setting) → IsSetting c → (t : TransactionValue) (l : Logs) → AreSound l → (d : Decision) (view : ℕ) →
    view < 2 ^ 64 → log_shard c t < 256 → IsId (id t) →
    ForSome (logged_as c t l d view) (FitsCertificate widest)
quorum_fits c is t l sound d view small shard i =
    for_chosen (FitsCertificate widest) (nat_le (log_quorum c.f) (length (earliest_by c l d view)))
    (certificate_of t
    (Commits (Logged (record {
      shard = log_shard c t;
      decision = d;
      decided = view;
      logs = map log_value
          (take (log_quorum c.f) (earliest_by c l d view));
    }))))
    (record {
      id = i;
      body = record {
        shard = shard;
        decided = small;
        logs = taken_counted (FitsLog widest view) after_log (earliest_at l d view) log_value (loggers l sound d view) (log_quorum c.f)
            (replicas c.f) (few_replicas c is);
      };
    })

repliers : (l : Logs) → AreSound l → Numbered (FitsReply widest) after_reply (latest_at l) reply_value
repliers l sound n h p e =
    let is = sound.latest n p e in (
      ap (λ k. k + 1) is.numbered,
      λ floor k. record {
        above = omega (arith, is.numbered, k);
        below = omega
            (arith, is.numbered, h);
        decided = is.decided;
        later = is.later;
        current = is.current;
        signature = is.signature;
      },
    )

pub invoke_fits : (c : Setting) → IsSetting c → (t : TransactionValue) (l : Logs) → AreSound l → log_shard c t < 256 → IsId (id t) →
    FitsMessage widest (invoked c t l)
invoke_fits c is t l sound shard i =
    record {
      id = i;
      shard = shard;
      replies = given_counted (FitsReply widest) after_reply (latest_at l) reply_value (repliers l sound) (replicas c.f)
          (few_replicas c is);
    }

pub second_fits : (c : Setting) → IsSetting c → (t : TransactionValue) (signature shards : List ℕ) → AreShards shards →
    (votes : List CountedVote) → AreSigned votes →
    IsTransaction t → IsSignature signature → ForSome (logged_by c shards votes)
    (λ l. FitsMessage widest (second_stage (unstarted t signature) l))
second_fits c is t signature shards are votes signed formed sealed l e =
    record { transaction = formed; signature = sealed; tallies = logged_fits c is shards are votes signed l e }

pub second_written : (o : Option ToLog) (l : ToLog) (m : Message) (t : TransactionValue) (signature : List ℕ) (found : Option LogsValue) →
    ForSome found (λ l. FitsMessage widest (second_stage (unstarted t signature) l)) → o ≡ Some l → option_map logged_value o ≡ found →
    message_value m ≡ second_stage (unstarted t signature) (logged_value l) → FitsMessage widest (message_value m)
second_written o l m t signature found fits is shows told =
    subst (λ (v : MessageValue). FitsMessage widest v) (sym told) (fits (logged_value l) (sym shows ∙ ap (option_map logged_value) is))
