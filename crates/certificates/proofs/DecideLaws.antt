-- There is no refusal exactly where the relation holds.
use Rattle.std.proofs.Common.{◌≡◌, ℕ, ◌<◌, ◌≤◌, ◌^◌, Bool, true, false, cond, ◌&&◌, List, [], ◌∷◌, length, Option, None, Some, refl, sym}
use Rattle.std.proofs.Common.{ap, ◌∙◌, subst, arith}
use Rattle.std.specs.Prelude.{option_and_then, is_none, ◌↔◌, Result, Ok, Err, IsOk}
use Rattle.std.specs.Str.{bytes_eq}
use Rattle.std.specs.List.{list_all}
use Rattle.std.proofs.lemmas.Bool.{and_parts}
use Rattle.std.proofs.lemmas.List.{length-map}
use Rattle.std.proofs.lemmas.List.Elements.{All-nil, All-cons, All-head}
use Rattle.std.proofs.lemmas.List.Sums.{AllPass-from_list_all, list_all-from_AllPass}
use Rattle.std.proofs.lemmas.Slice.Eq.{bytes_eq-Decides}
use Rattle.basil_types.specs.Refusals.{Refuses}
use Rattle.basil_types.specs.Built.{or_else}
use Rattle.basil_types.specs.Decision.{same_decision}
use Rattle.basil_types.specs.Lists.{AreItems}
use Rattle.basil_types.specs.declared.party.Decision.{Decision}
use Rattle.basil_types.specs.declared.party.Decision.TheVariants.{Commit, Abort}
use Rattle.basil_types.specs.Setting.{Setting, IsSetting}
use Rattle.basil_types.specs.Transaction as transactions
use Rattle.basil_types.specs.Transaction.{TransactionValue}
use Rattle.frame_views.specs.Fitting.{FitsTally, FitsTallies, FitsLogged, FitsCertificate, after_tally, bounds_of}
use Rattle.frame_views.specs.Signed.{SignedBy, tally_signed, tallies_signed, logged_signed, certificate_signed, one_logged}
use Rattle.frame_views.specs.Values as values
use Rattle.frame_views.specs.Values.{TallyValue, LoggedValue, BodyValue, ConflictValue, CertificateValue, as_certificate}
use Rattle.quorum_laws.specs.Numbers.{fast_commit, fast_abort, log_quorum, commit_tally, abort_tally}
use Rattle.txn_meta.specs.Conflicts.{conflict}
use Rattle.txn_meta.specs.Form.{form_fault}
use Rattle.txn_meta.specs.declared.form.FormFault.{FormFault}
use Rattle.certificates.specs.declared.refusal.CertRefusal.{CertRefusal}
use Rattle.certificates.specs.declared.refusal.CertRefusal.TheVariants.{WrongId, Mixed, NoConflict}
use Rattle.certificates.specs.Accepted.{Accepted, accepts, AllAccepted}
use Rattle.certificates.specs.Tallies.{VotedInAll, VotedInOne, AbortTallied, Tallied}
use Rattle.certificates.specs.Deciding.{HasGoodForm, LoggedAs, CommitsBy, Commits, AbortsBy, Aborts, Proves}
use Rattle.certificates.specs.Refusals.{few, few_listed, stray, stray_listed, stray_logged, bad_signature, PairValue, wrong_id, mixed}
use Rattle.certificates.specs.Refusals.{not_involved, too_few, no_conflict_by, nested_in, refusal, tallies_refusal, stray_alone}
use Rattle.certificates.proofs.CountLaws.{size_loggers, none_refused, refused_none, enough, not_few, enough_each, none_few, voted_of}
use Rattle.certificates.proofs.CountLaws.{counted_of, front_accepted, each_voted, each_counted, length_tally, length_tallies}
use Rattle.certificates.proofs.ShardLaws.{listed_exactly, none_stray, is_involved, not_stray, is_log_shard, not_stray_logged, one_alone}

-- ---- chains of tests

pub split_none : {X : Type 0} (o p : Option X) → or_else o p ≡ None → (o ≡ None) × (p ≡ None)
split_none None p h = (refl, h)
split_none (Some x) p h = absurd cc

pub join_none : {X : Type 0} (o p : Option X) → o ≡ None → p ≡ None → or_else o p ≡ None
join_none o p h k = ap (λ q. or_else q p) h ∙ k

all_from : (A : Accepted) (signed : List SignedBy) → bad_signature A signed ≡ None → AllAccepted A signed
all_from A signed h = AllPass-from_list_all (accepts A) signed (none_refused A signed h)

all_to : (A : Accepted) (signed : List SignedBy) → AllAccepted A signed → list_all (accepts A) signed ≡ true
all_to A signed h = list_all-from_AllPass (accepts A) signed h

-- ---- ids and decisions

same_id : (a b : List ℕ) → cond (bytes_eq a b) None (Some WrongId) ≡ None → a ≡ b
same_id a b h = by (bytes_eq a b) (bytes_eq-Decides a b).0 h where
  by : (t : Bool) → (t ≡ true → a ≡ b) → cond t None (Some WrongId) ≡ None → a ≡ b
  by true f h = f refl
  by false f h = absurd cc

no_wrong_id : (a b : List ℕ) → a ≡ b → cond (bytes_eq a b) None (Some WrongId) ≡ None
no_wrong_id a b e = ap (λ t. cond t None (Some WrongId)) ((bytes_eq-Decides a b).1 e)

not_mixed : (a b : Decision) → cond (same_decision a b) None (Some Mixed) ≡ None → a ≡ b
not_mixed Commit Commit h = refl
not_mixed Commit Abort h = absurd cc
not_mixed Abort Commit h = absurd cc
not_mixed Abort Abort h = refl

no_mixed : (a b : Decision) → a ≡ b → cond (same_decision a b) None (Some Mixed) ≡ None
no_mixed Commit Commit h = refl
no_mixed Commit Abort h = absurd cc
no_mixed Abort Commit h = absurd cc
no_mixed Abort Abort h = refl

-- ---- votes and log replies

all_voted : (A : Accepted) (c : Setting) (t : TransactionValue) (id : List ℕ) (needed : ℕ) (tallies : List TallyValue) → IsSetting c
    → FitsTallies (bounds_of c) tallies → stray_listed c t tallies ≡ None → few_listed needed tallies ≡ None
    → list_all (accepts A) (tallies_signed id Commit tallies) ≡ true → VotedInAll A c t id needed tallies
all_voted A c t id needed tallies i fits h k a = record {
  shards = listed_exactly c t tallies i fits.each h;
  votes = each_voted A (bounds_of c) c.f id Commit needed 0 tallies refl fits.each a (enough_each needed tallies k);
}

all_counted : (A : Accepted) (c : Setting) (t : TransactionValue) (id : List ℕ) (needed : ℕ) (tallies : List TallyValue)
    → FitsTallies (bounds_of c) tallies → list_all (accepts A) (tallies_signed id Commit tallies) ≡ true
    → VotedInAll A c t id needed tallies → (stray_listed c t tallies ≡ None) × (few_listed needed tallies ≡ None)
all_counted A c t id needed tallies fits a v = (
  none_stray c t tallies v.shards,
  none_few needed tallies (each_counted A (bounds_of c) c.f id Commit needed 0 tallies refl fits.each a v.votes),
)

one_voted : (A : Accepted) (c : Setting) (t : TransactionValue) (id : List ℕ) (needed floor : ℕ) (tally : TallyValue)
    → FitsTally (bounds_of c) floor tally → stray c t tally.shard ≡ None → few (length tally.votes) needed ≡ None
    → list_all (accepts A) (tally_signed id Abort tally) ≡ true → VotedInOne A c t id needed tally
one_voted A c t id needed floor tally fits h k a = record {
  shard = is_involved c t tally.shard h;
  votes = voted_of A (bounds_of c) c.f id Abort needed tally refl fits.votes.each a (enough (length tally.votes) needed k);
}

one_counted : (A : Accepted) (c : Setting) (t : TransactionValue) (id : List ℕ) (needed floor : ℕ) (tally : TallyValue)
    → FitsTally (bounds_of c) floor tally → list_all (accepts A) (tally_signed id Abort tally) ≡ true → VotedInOne A c t id needed tally
    → (stray c t tally.shard ≡ None) × (few (length tally.votes) needed ≡ None)
one_counted A c t id needed floor tally fits a v = (
  not_stray c t tally.shard v.shard,
  not_few (length tally.votes) needed (counted_of A (bounds_of c) c.f id Abort needed tally refl fits.votes.each a v.votes),
)

logged_as : (A : Accepted) (c : Setting) (t : TransactionValue) (d : Decision) (id : List ℕ) (l : LoggedValue) → FitsLogged (bounds_of c) l
    → l.decision ≡ d → stray_logged c t l.shard ≡ None → few (length l.logs) (log_quorum c.f) ≡ None
    → list_all (accepts A) (logged_signed id l) ≡ true → LoggedAs A c t d id l
logged_as A c t d id l fits e h k a =
    let same = size_loggers A (bounds_of c) id l fits.logs.each a in
    let many = enough (length l.logs) (log_quorum c.f) k in
    record { decides = e; shard = is_log_shard c t l.shard h; replies = omega arith }

logged_counted : (A : Accepted) (c : Setting) (t : TransactionValue) (d : Decision) (id : List ℕ) (l : LoggedValue)
    → FitsLogged (bounds_of c) l → list_all (accepts A) (logged_signed id l) ≡ true → LoggedAs A c t d id l
    → (stray_logged c t l.shard ≡ None) × (few (length l.logs) (log_quorum c.f) ≡ None)
logged_counted A c t d id l fits a v =
    let same = size_loggers A (bounds_of c) id l fits.logs.each a in
    (not_stray_logged c t l.shard v.shard, not_few (length l.logs) (log_quorum c.f) (omega (arith, v.replies)))

-- ---- commit certificates: what the tests of one pair say

pub record Passes (A : Accepted) (c : Setting) (d : Decision) (p : PairValue) : Type 0 where
  pub id : wrong_id p ≡ None
  pub decision : mixed d p ≡ None
  pub shards : not_involved c p ≡ None
  pub counts : too_few c p ≡ None
  pub accepted : list_all (accepts A) (certificate_signed p.certificate) ≡ true

abbrev pub paired : TransactionValue → CertificateValue → PairValue
paired t certificate = record { transaction = t; certificate = certificate }

kind_of_commit : (A : Accepted) (c : Setting) (t : TransactionValue) (id : List ℕ) (b : BodyValue) → IsSetting c
    → FitsCertificate (bounds_of c) (record { id = id; body = b }) → Passes A c Commit (paired t (record { id = id; body = b }))
    → CommitsBy A c t id b
kind_of_commit A c t id (values.Commits (values.FastCommit tallies)) i fits p =
    all_voted A c t id (fast_commit c.f) tallies i fits.body p.shards p.counts p.accepted
kind_of_commit A c t id (values.Commits (values.Logged l)) i fits p =
    logged_as A c t Commit id l fits.body (not_mixed l.decision Commit p.decision) p.shards p.counts p.accepted
kind_of_commit A c t id (values.FastAbort tally) i fits p = absurd (let e = p.decision in cc)
kind_of_commit A c t id (values.ConflictAbort x) i fits p = absurd (let e = p.decision in cc)

pub commits_from : (A : Accepted) (c : Setting) (t : TransactionValue) (certificate : CertificateValue) → IsSetting c
    → FitsCertificate (bounds_of c) certificate → HasGoodForm t → Passes A c Commit (paired t certificate) → Commits A c t certificate
commits_from A c t certificate i fits f p = record {
  form = f;
  about = same_id certificate.id (transactions.id t) p.id;
  kind = kind_of_commit A c t certificate.id certificate.body i fits p;
  accepted = AllPass-from_list_all (accepts A) (certificate_signed certificate) p.accepted;
}

tests_of_commit : (A : Accepted) (c : Setting) (t : TransactionValue) (id : List ℕ) (b : BodyValue)
    → FitsCertificate (bounds_of c) (record { id = id; body = b })
    → list_all (accepts A) (certificate_signed (record { id = id; body = b })) ≡ true → CommitsBy A c t id b
    → (mixed Commit (paired t (record { id = id; body = b })) ≡ None) ×
    (not_involved c (paired t (record { id = id; body = b })) ≡ None) × (too_few c (paired t (record { id = id; body = b })) ≡ None)
tests_of_commit A c t id (values.Commits (values.FastCommit tallies)) fits a k =
    let tests = all_counted A c t id (fast_commit c.f) tallies fits.body a k in (refl, tests.0, tests.1)
tests_of_commit A c t id (values.Commits (values.Logged l)) fits a k =
    let tests = logged_counted A c t Commit id l fits.body a k in (no_mixed l.decision Commit k.decides, tests.0, tests.1)
tests_of_commit A c t id (values.FastAbort tally) fits a k = absurd k
tests_of_commit A c t id (values.ConflictAbort x) fits a k = absurd k

pub commits_to : (A : Accepted) (c : Setting) (t : TransactionValue) (certificate : CertificateValue)
    → FitsCertificate (bounds_of c) certificate → Commits A c t certificate → Passes A c Commit (paired t certificate)
commits_to A c t certificate fits k =
    let a = all_to A (certificate_signed certificate) k.accepted in
    let tests = tests_of_commit A c t certificate.id certificate.body fits a k.kind in
    record {
      id = no_wrong_id certificate.id (transactions.id t) k.about;
      decision = tests.0;
      shards = tests.1;
      counts = tests.2;
      accepted = a;
    }

-- ---- all tests of a certificate

record AllPassed (A : Accepted) (c : Setting)
    (d : Decision) (p : PairValue) (inner : Option PairValue) (conflict_test : Option CertRefusal) : Type 0 where
  outer : Passes A c d p
  conflicts : conflict_test ≡ None
  ids : option_and_then wrong_id inner ≡ None
  decisions : option_and_then (mixed Commit) inner ≡ None
  shards : option_and_then (not_involved c) inner ≡ None
  counts : option_and_then (too_few c) inner ≡ None

passed_from : (A : Accepted) (c : Setting) (t : TransactionValue) (d : Decision) (certificate : CertificateValue)
    → refusal A c t d certificate ≡ None
    → AllPassed A c d (paired t certificate) (nested_in certificate.body) (no_conflict_by t certificate.body)
passed_from A c t d certificate h =
    let first = split_none _ _ h in
    let second = split_none _ _ first.1 in
    let third = split_none _ _ second.1 in
    let fourth = split_none _ _ third.1 in
    let fifth = split_none _ _ fourth.1 in
    let ids = split_none _ _ first.0 in
    let decisions = split_none _ _ second.0 in
    let shards = split_none _ _ third.0 in
    let counts = split_none _ _ fourth.0 in
    record {
      outer = record {
        id = ids.0;
        decision = decisions.0;
        shards = shards.0;
        counts = counts.0;
        accepted = none_refused A (certificate_signed certificate) fifth.1;
      };
      conflicts = fifth.0;
      ids = ids.1;
      decisions = decisions.1;
      shards = shards.1;
      counts = counts.1;
    }

passed_to : (A : Accepted) (c : Setting) (t : TransactionValue) (d : Decision) (certificate : CertificateValue)
    → AllPassed A c d (paired t certificate) (nested_in certificate.body) (no_conflict_by t certificate.body)
    → refusal A c t d certificate ≡ None
passed_to A c t d certificate p =
    join_none _ _ (join_none _ _ p.outer.id p.ids)
    (join_none _ _ (join_none _ _ p.outer.decision p.decisions)
    (join_none _ _ (join_none _ _ p.outer.shards p.shards)
    (join_none _ _ (join_none _ _ p.outer.counts p.counts)
    (join_none _ _ p.conflicts (refused_none A (certificate_signed certificate) p.outer.accepted)))))

-- ---- commit certificates

nothing_inside : (A : Accepted) (c : Setting) (t : TransactionValue) (id : List ℕ) (b : BodyValue) → CommitsBy A c t id b
    → (nested_in b ≡ None) × (no_conflict_by t b ≡ None)
nothing_inside A c t id (values.Commits body) k = (refl, refl)
nothing_inside A c t id (values.FastAbort tally) k = (refl, refl)
nothing_inside A c t id (values.ConflictAbort x) k = absurd k

pub commits_exactly : (A : Accepted) (c : Setting) (t : TransactionValue) (certificate : CertificateValue) → IsSetting c
    → FitsCertificate (bounds_of c) certificate → HasGoodForm t → (refusal A c t Commit certificate ≡ None) ↔ Commits A c t certificate
commits_exactly A c t certificate i fits f = (
  λ h. commits_from A c t certificate i fits f (passed_from A c t Commit certificate h).outer,
  λ k. let outer = commits_to A c t certificate fits k in
      let inside = nothing_inside A c t certificate.id certificate.body k.kind in
      passed_to A c t Commit certificate (record {
        outer = outer;
        conflicts = inside.1;
        ids = ap (option_and_then wrong_id) inside.0;
        decisions = ap (option_and_then (mixed Commit)) inside.0;
        shards = ap (option_and_then (not_involved c)) inside.0;
        counts = ap (option_and_then (too_few c)) inside.0;
      }),
)

-- ---- conflict aborts

abbrev inside : ConflictValue → PairValue
inside x = paired x.other (as_certificate x.proof)

is_there : (o : Option FormFault) → is_none o ≡ true → o ≡ None
is_there None h = refl
is_there (Some fault) h = absurd cc

rival : (t : TransactionValue) (x : ConflictValue) → no_conflict_by t (values.ConflictAbort x) ≡ None
    → (form_fault x.other ≡ None) × (conflict t x.other ≡ true)
rival t x h = by (is_none (form_fault x.other) && conflict t x.other) refl h where
  by : (b : Bool) → (is_none (form_fault x.other) && conflict t x.other) ≡ b → cond b None (Some NoConflict) ≡ None
      → (form_fault x.other ≡ None) × (conflict t x.other ≡ true)
  by true e h = let both = and_parts (is_none (form_fault x.other)) (conflict t x.other) e in (is_there (form_fault x.other) both.0, both.1)
  by false e h = absurd cc

no_rival_fault : (t : TransactionValue) (x : ConflictValue) → form_fault x.other ≡ None → conflict t x.other ≡ true
    → no_conflict_by t (values.ConflictAbort x) ≡ None
no_rival_fault t x f k =
    ap (λ (o : Option FormFault). cond (is_none o && conflict t x.other) None (Some NoConflict)) f
    ∙ ap (λ b. cond b None (Some NoConflict)) k

pair_inside : (x : ConflictValue) → form_fault x.other ≡ None → nested_in (values.ConflictAbort x) ≡ Some (inside x)
pair_inside x f = ap (λ (o : Option FormFault). cond (is_none o) (Some (inside x)) None) f

kind_of_abort : (A : Accepted) (c : Setting) (t : TransactionValue) (id : List ℕ) (b : BodyValue) → IsSetting c
    → FitsCertificate (bounds_of c) (record { id = id; body = b })
    → AllPassed A c Abort (paired t (record { id = id; body = b })) (nested_in b) (no_conflict_by t b) → AbortsBy A c t id b
kind_of_abort A c t id (values.Commits (values.FastCommit tallies)) i fits p = absurd (let e = p.outer.decision in cc)
kind_of_abort A c t id (values.Commits (values.Logged l)) i fits p =
    logged_as A c t Abort id l fits.body (not_mixed l.decision Abort p.outer.decision) p.outer.shards p.outer.counts p.outer.accepted
kind_of_abort A c t id (values.FastAbort tally) i fits p =
    one_voted A c t id (fast_abort c.f) 0 tally fits.body p.outer.shards p.outer.counts p.outer.accepted
kind_of_abort A c t id (values.ConflictAbort x) i fits p =
    let known = rival t x p.conflicts in
    let there = pair_inside x known.0 in
    record {
      shard = is_involved c t x.shard p.outer.shards;
      conflicts = known.1;
      committed = commits_from A c x.other
          (as_certificate x.proof) i (record { id = fits.body.proof.id; body = fits.body.proof.body }) known.0 (record {
            id = sym (ap (option_and_then wrong_id) there) ∙ p.ids;
            decision = sym (ap (option_and_then (mixed Commit)) there) ∙ p.decisions;
            shards = sym (ap (option_and_then (not_involved c)) there) ∙ p.shards;
            counts = sym (ap (option_and_then (too_few c)) there) ∙ p.counts;
            accepted = (and_parts _ _ p.outer.accepted).1;
          });
    }

tests_of_abort : (A : Accepted) (c : Setting) (t : TransactionValue) (id : List ℕ) (b : BodyValue)
    → FitsCertificate (bounds_of c) (record { id = id; body = b }) → wrong_id (paired t (record { id = id; body = b })) ≡ None
    → list_all (accepts A) (certificate_signed (record { id = id; body = b })) ≡ true → AbortsBy A c t id b
    → AllPassed A c Abort (paired t (record { id = id; body = b })) (nested_in b) (no_conflict_by t b)
tests_of_abort A c t id (values.Commits (values.FastCommit tallies)) fits w a k = absurd k
tests_of_abort A c t id (values.Commits (values.Logged l)) fits w a k =
    let tests = logged_counted A c t Abort id l fits.body a k in
    record {
      outer = record { id = w; decision = no_mixed l.decision Abort k.decides; shards = tests.0; counts = tests.1; accepted = a };
      conflicts = refl;
      ids = refl;
      decisions = refl;
      shards = refl;
      counts = refl;
    }
tests_of_abort A c t id (values.FastAbort tally) fits w a k =
    let tests = one_counted A c t id (fast_abort c.f) 0 tally fits.body a k in
    record {
      outer = record { id = w; decision = refl; shards = tests.0; counts = tests.1; accepted = a };
      conflicts = refl;
      ids = refl;
      decisions = refl;
      shards = refl;
      counts = refl;
    }
tests_of_abort A c t id (values.ConflictAbort x) fits w a k =
    let inner =
    commits_to A c x.other (as_certificate x.proof) (record { id = fits.body.proof.id; body = fits.body.proof.body }) k.committed in
    let there = pair_inside x k.committed.form in
    record {
      outer = record { id = w; decision = refl; shards = not_stray c t x.shard k.shard; counts = refl; accepted = a };
      conflicts = no_rival_fault t x k.committed.form k.conflicts;
      ids = ap (option_and_then wrong_id) there ∙ inner.id;
      decisions = ap (option_and_then (mixed Commit)) there ∙ inner.decision;
      shards = ap (option_and_then (not_involved c)) there ∙ inner.shards;
      counts = ap (option_and_then (too_few c)) there ∙ inner.counts;
    }

pub aborts_exactly : (A : Accepted) (c : Setting) (t : TransactionValue) (certificate : CertificateValue) → IsSetting c
    → FitsCertificate (bounds_of c) certificate → HasGoodForm t → (refusal A c t Abort certificate ≡ None) ↔ Aborts A c t certificate
aborts_exactly A c t certificate i fits f = (
  λ h. let p = passed_from A c t Abort certificate h in
      record {
        form = f;
        about = same_id certificate.id (transactions.id t) p.outer.id;
        kind = kind_of_abort A c t certificate.id certificate.body i fits p;
        accepted = AllPass-from_list_all (accepts A) (certificate_signed certificate) p.outer.accepted;
      },
  λ k. passed_to A c t Abort certificate
      (tests_of_abort A c t certificate.id certificate.body fits
      (no_wrong_id certificate.id (transactions.id t) k.about) (all_to A (certificate_signed certificate) k.accepted) k.kind),
)

pub proves_exactly : (A : Accepted) (c : Setting) (t : TransactionValue) (d : Decision) (certificate : CertificateValue) → IsSetting c
    → FitsCertificate (bounds_of c) certificate → HasGoodForm t → (refusal A c t d certificate ≡ None) ↔ Proves A c t d certificate
proves_exactly A c t Commit certificate i fits f = commits_exactly A c t certificate i fits f
proves_exactly A c t Abort certificate i fits f = aborts_exactly A c t certificate i fits f

-- ---- tallies

pub tallied_exactly : (A : Accepted) (c : Setting) (t : TransactionValue) (d : Decision) (tallies : List TallyValue) → IsSetting c
    → FitsTallies (bounds_of c) tallies → HasGoodForm t → (tallies_refusal A c t d tallies ≡ None) ↔ Tallied A c t d tallies
tallied_exactly A c t Commit tallies i fits f =
    let id = transactions.id t in (
      λ h. let first = split_none _ _ h in
          let second = split_none _ _ first.1 in
          let a = none_refused A (tallies_signed id Commit tallies) second.1 in
          record {
            voted = all_voted A c t id (commit_tally c.f) tallies i fits first.0 second.0 a;
            accepted = AllPass-from_list_all (accepts A) (tallies_signed id Commit tallies) a;
          },
      λ k. let a = all_to A (tallies_signed id Commit tallies) k.accepted in
          let tests = all_counted A c t id (commit_tally c.f) tallies fits a k.voted in
          join_none _ _ tests.0 (join_none _ _ tests.1 (refused_none A (tallies_signed id Commit tallies) a)),
    )
tallied_exactly A c t Abort tallies i fits f = (λ h. abort_from A c t tallies i fits f h, λ k. abort_to A c t tallies fits k)
  where
    abort_from : (A : Accepted) (c : Setting) (t : TransactionValue) (tallies : List TallyValue) → IsSetting c
        → FitsTallies (bounds_of c) tallies → HasGoodForm t → tallies_refusal A c t Abort tallies ≡ None → AbortTallied A c t tallies
    abort_from A c t tallies i fits f h =
        let first = split_none _ _ h in
        let second = split_none _ _ first.1 in
        let all = none_refused A (tallies_signed (transactions.id t) Abort tallies) second.1 in
        let one = one_alone c t tallies i f first.0 in
        let fits_one = subst (λ (ts : List TallyValue). AreItems (FitsTally (bounds_of c)) after_tally 0 ts) one.1 fits.each in
        let few_one = subst (λ (ts : List TallyValue). few_listed (abort_tally c.f) ts ≡ None) one.1 second.0 in
        let all_one =
        subst (λ (ts : List TallyValue). list_all (accepts A) (tallies_signed (transactions.id t) Abort ts) ≡ true) one.1 all in
        let many =
        All-head (λ (u : TallyValue). abort_tally c.f ≤ length u.votes) one.0 [] (enough_each (abort_tally c.f) (one.0 ∷ []) few_one) in
        record {
          tally = one.0;
          alone = one.1;
          voted = record {
            shard = one.2;
            votes = voted_of A (bounds_of c) c.f (transactions.id t) Abort
                (abort_tally c.f) one.0 refl fits_one.0.votes.each (front_accepted A (transactions.id t) Abort one.0 [] all_one).0 many;
          };
          accepted = AllPass-from_list_all (accepts A) (tallies_signed (transactions.id t) Abort tallies) all;
        }

    abort_to : (A : Accepted) (c : Setting) (t : TransactionValue) (tallies : List TallyValue) → FitsTallies (bounds_of c) tallies
        → AbortTallied A c t tallies → tallies_refusal A c t Abort tallies ≡ None
    abort_to A c t tallies fits k =
        let all = all_to A (tallies_signed (transactions.id t) Abort tallies) k.accepted in
        let fits_one = subst (λ (ts : List TallyValue). AreItems (FitsTally (bounds_of c)) after_tally 0 ts) k.alone fits.each in
        let all_one =
        subst (λ (ts : List TallyValue). list_all (accepts A) (tallies_signed (transactions.id t) Abort ts) ≡ true) k.alone all in
        let many = counted_of A (bounds_of c) c.f (transactions.id t) Abort (abort_tally c.f) k.tally refl fits_one.0.votes.each
        (front_accepted A (transactions.id t) Abort k.tally [] all_one).0 k.voted.votes in
        join_none _ _ (ap (stray_alone c t) k.alone ∙ not_stray c t k.tally.shard k.voted.shard)
        (join_none _ _
        (ap (few_listed (abort_tally c.f)) k.alone ∙ none_few (abort_tally c.f) (k.tally ∷ []) (All-cons (λ (u : TallyValue).
        abort_tally c.f ≤ length u.votes) k.tally [] many (All-nil (λ (u : TallyValue). abort_tally c.f ≤ length u.votes))))
        (refused_none A (tallies_signed (transactions.id t) Abort tallies) all))

-- ---- how many signatures there may be

few_in_commit : (c : Setting) (id : List ℕ) (b : values.CommitBody)
    → FitsCertificate (bounds_of c) (record { id = id; body = values.Commits b })
    → length (certificate_signed (record { id = id; body = values.Commits b })) ≤ 65025
few_in_commit c id (values.FastCommit tallies) fits =
    let many = length_tallies (bounds_of c) id Commit 0 tallies fits.body.each in
    let few_shards : length tallies < 256 = fits.body.count in
    omega arith
few_in_commit c id (values.Logged l) fits =
    let same : length (logged_signed id l) ≡ length l.logs = length-map l.logs (one_logged l.shard id l.decision l.decided) in
    let few_logs : length l.logs < 256 = fits.body.logs.count in
    omega arith

few_in_body : (c : Setting) (id : List ℕ) (b : BodyValue) → FitsCertificate (bounds_of c) (record { id = id; body = b })
    → length (certificate_signed (record { id = id; body = b })) < 2 ^ 64
few_in_body c id (values.Commits b) fits = let few_signed = few_in_commit c id b fits in omega arith
few_in_body c id (values.FastAbort tally) fits =
    let same = length_tally id Abort tally in
    let few_votes : length tally.votes < 256 = fits.body.votes.count in
    omega arith
few_in_body c id (values.ConflictAbort x) fits =
    let few_signed = few_in_commit c x.proof.id x.proof.body (record { id = fits.body.proof.id; body = fits.body.proof.body }) in
    omega arith

pub few_signatures : (c : Setting) (certificate : CertificateValue) → FitsCertificate (bounds_of c) certificate
    → length (certificate_signed certificate) < 2 ^ 64
few_signatures c certificate fits = few_in_body c certificate.id certificate.body fits

pub few_tally_signatures : (c : Setting) (id : List ℕ) (d : Decision) (tallies : List TallyValue) → FitsTallies (bounds_of c) tallies
    → length (tallies_signed id d tallies) < 2 ^ 64
few_tally_signatures c id d tallies fits =
    let many = length_tallies (bounds_of c) id d 0 tallies fits.each in
    let few_shards : length tallies < 256 = fits.count in
    omega arith

-- ---- an answer and its refusal

pub ok_exactly : (r : Result (Unit {0}) CertRefusal) (refusal : Option CertRefusal) (P : Type 0) → Refuses r refusal → (refusal ≡ None) ↔ P
    → IsOk r ↔ P
ok_exactly (Ok u) refusal P h e = (λ _. e.0 h, λ _. refl)
ok_exactly (Err r) refusal P h e = (λ i. absurd (let j = i in cc), λ p. absurd (some_none (sym h ∙ e.1 p)))
  where
    some_none : {X : Type 0} {x : X} → Some x ≡ None → ⊥
    some_none e = cc
