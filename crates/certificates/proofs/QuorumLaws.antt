-- From listed and accepted signatures to quorums of replicas.
use Rattle.std.proofs.Common.{◌≡◌, ℕ, ◌+◌, ◌<◌, ◌==◌, ◌^◌, true, ◌&&◌, List, [], ◌∷◌, length, refl, sym, ap, ◌∙◌, subst, inl, inr}
use Rattle.std.specs.List.{list_any, All, AllPass}
use Rattle.std.proofs.lemmas.Bool.{cases_Bool, eqb-true, and_parts}
use Rattle.std.proofs.lemmas.List.Elements.{All-head, All-tail}
use Rattle.std.proofs.lemmas.List.Sums.{list_all-from_AllPass}
use Rattle.sha2.proofs.Facts256.{length-sha256}
use Rattle.basil_types.specs.Lists.{AreItems}
use Rattle.basil_types.specs.declared.party.Party.TheVariants.{Replica}
use Rattle.basil_types.specs.declared.party.Decision.{Decision}
use Rattle.basil_types.specs.declared.party.Decision.TheVariants.{Commit, Abort}
use Rattle.basil_types.specs.Setting.{Setting}
use Rattle.basil_types.specs.Transaction.{TransactionValue, id, canonical}
use Rattle.basil_types.specs.Words.{words_of, VoteWords, LogReplyWords}
use Rattle.frame_views.specs.declared.bounds.Bounds.{Bounds}
use Rattle.frame_views.specs.Fitting.{FitsLog, FitsLogged, FitsCertificate, after_log, bounds_of}
use Rattle.frame_views.specs.Signed.{vote_signed, one_logged, certificate_signed}
use Rattle.frame_views.specs.Values as values
use Rattle.frame_views.specs.Values.{VoteValue, TallyValue, LogValue, LoggedValue, BodyValue, CertificateValue}
use Rattle.frame_views.specs.Values.{as_certificate}
use Rattle.quorum_laws.specs.Numbers.{fast_commit, fast_abort, commit_tally, abort_tally}
use Rattle.certificates.specs.Accepted.{Accepted, accepts}
use Rattle.certificates.specs.Voters.{voters, Voted, loggers}
use Rattle.certificates.specs.Tallies.{lists, VotedInAll, VotedInOne, Tallied}
use Rattle.certificates.specs.Deciding.{LoggedAs, Commits, CommitsBy, Aborts, AbortsBy}
use Rattle.certificates.specs.Quorums.{Says, VoteQuorum, LogReplyQuorum, VotesInAll, VotesInOne, CommitShown, AbortShown, CanCommit}
use Rattle.certificates.specs.Quorums.{CanAbort, CanLog, vote_words, log_words}

length_id : (t : TransactionValue) → length (id t) ≡ 32
length_id t = length-sha256 (canonical t)

-- ---- votes

voter_says : (A : Accepted) (t : TransactionValue) (x : List ℕ) (d : Decision) (shard : ℕ) (votes : List VoteValue) (r : ℕ) → x ≡ id t
    → list_any (λ (v : VoteValue). (v.replica == r) && accepts A (vote_signed shard x d v)) votes ≡ true
    → Says A shard r (vote_words t shard r d)
voter_says A t x d shard [] r e h = absurd cc
voter_says A t x d shard (v ∷ vs) r e h = elim (cases_Bool ((v.replica == r) && accepts A (vote_signed shard x d v))) [
  | inl here ↦
      let both = and_parts (v.replica == r) (accepts A (vote_signed shard x d v)) here in
      record {
        signature = v.signature;
        accepted =
            sym (ap (λ (k : ℕ). A (Replica shard k) (words_of (VoteWords (record { shard = shard; replica = k; id = id t; decision = d })))
            v.signature) (eqb-true v.replica r both.0))
            ∙ sym (ap (λ (y : List ℕ). accepts A (vote_signed shard y d v)) e) ∙ both.1;
        sized = length_id t;
      }
  | inr there ↦ voter_says A t x d shard vs r e (rw there at h)
]

vote_quorum : (A : Accepted) (c : Setting) (t : TransactionValue) (x : List ℕ) (d : Decision) (needed : ℕ) (tally : TallyValue) → x ≡ id t
    → Voted A c.f x d needed tally → VoteQuorum A c t tally.shard d needed
vote_quorum A c t x d needed tally e h =
    record { who = voters A x d tally; many = h; each = λ r _ k. voter_says A t x d tally.shard tally.votes r e k }

quorum_of : (A : Accepted) (c : Setting) (t : TransactionValue) (x : List ℕ) (d : Decision) (needed shard : ℕ) (tallies : List TallyValue)
    → x ≡ id t → All (Voted A c.f x d needed) tallies → lists tallies shard ≡ true → VoteQuorum A c t shard d needed
quorum_of A c t x d needed shard [] e h l = absurd cc
quorum_of A c t x d needed shard (tally ∷ rest) e h l = elim (cases_Bool (tally.shard == shard)) [
  | inl here ↦ subst (λ (s : ℕ). VoteQuorum A c t s d needed)
      (eqb-true tally.shard shard here) (vote_quorum A c t x d needed tally e (All-head (Voted A c.f x d needed) tally rest h))
  | inr there ↦ quorum_of A c t x d needed shard rest e (All-tail (Voted A c.f x d needed) tally rest h) (rw there at l)
]

votes_in_all : (A : Accepted) (c : Setting) (t : TransactionValue) (x : List ℕ) (needed : ℕ) (tallies : List TallyValue) → x ≡ id t
    → VotedInAll A c t x needed tallies → VotesInAll A c t needed
votes_in_all A c t x needed tallies e v = λ shard i. quorum_of A c t x Commit needed shard tallies e v.votes (v.shards shard ∙ i)

votes_in_one : (A : Accepted) (c : Setting) (t : TransactionValue) (x : List ℕ) (needed : ℕ) (tally : TallyValue) → x ≡ id t
    → VotedInOne A c t x needed tally → VotesInOne A c t needed
votes_in_one A c t x needed tally e v = (tally.shard, v.shard, vote_quorum A c t x Abort needed tally e v.votes)

-- ---- log replies

abbrev LogSaid : Accepted → TransactionValue → ℕ → Decision → ℕ → ℕ → Type 0
LogSaid A t shard d decided r = (current : ℕ) × Says A shard r (log_words t shard r d decided current)

logger_says : (A : Accepted) (b : Bounds)
    (t : TransactionValue) (x : List ℕ) (shard : ℕ) (d : Decision) (decided floor : ℕ) (logs : List LogValue) (r : ℕ)
    → x ≡ id t → decided < 2 ^ 64 → AreItems (FitsLog b decided) after_log floor logs
    → list_any (λ (l : LogValue). (l.replica == r) && accepts A (one_logged shard x d decided l)) logs ≡ true
    → LogSaid A t shard d decided r
logger_says A b t x shard d decided floor [] r e n fits h = absurd cc
logger_says A b t x shard d decided floor (l ∷ ls) r e n fits h =
    elim (cases_Bool ((l.replica == r) && accepts A (one_logged shard x d decided l))) [
      | inl here ↦
          let both = and_parts (l.replica == r) (accepts A (one_logged shard x d decided l)) here in (
            l.current,
            record {
              signature = l.signature;
              accepted =
                  sym (ap (λ (k : ℕ). A (Replica shard k) (words_of (LogReplyWords (record {
                    shard = shard;
                    replica = k;
                    id = id t;
                    decision = d;
                    decided = decided;
                    current = l.current;
                  }))) l.signature) (eqb-true l.replica r both.0))
                  ∙ sym (ap (λ (y : List ℕ). accepts A (one_logged shard y d decided l)) e) ∙ both.1;
              sized = record { id = length_id t; decided = n; current = fits.0.current };
            },
          )
      | inr there ↦ logger_says A b t x shard d decided (l.replica + 1) ls r e n fits.1 (rw there at h)
    ]

log_quorum_of : (A : Accepted) (c : Setting) (t : TransactionValue) (d : Decision) (x : List ℕ) (l : LoggedValue) → x ≡ id t
    → FitsLogged (bounds_of c) l → LoggedAs A c t d x l → LogReplyQuorum A c t d l.decided
log_quorum_of A c t d x l e fits k = record {
  who = loggers A x l;
  many = k.replies;
  each = λ r _ h. subst (λ (s : ℕ). LogSaid A t s d l.decided r) k.shard
      (subst (λ (z : Decision). LogSaid A t l.shard z l.decided r) k.decides
      (logger_says A (bounds_of c) t x l.shard l.decision l.decided 0 l.logs r e fits.decided fits.logs.each h));
}

-- ---- certificates

shown_by_commit : (A : Accepted) (c : Setting) (t : TransactionValue) (x : List ℕ) (b : BodyValue) → x ≡ id t
    → FitsCertificate (bounds_of c) (record { id = x; body = b }) → CommitsBy A c t x b → CommitShown A c t b
shown_by_commit A c t x (values.Commits (values.FastCommit tallies)) e fits k = votes_in_all A c t x (fast_commit c.f) tallies e k
shown_by_commit A c t x (values.Commits (values.Logged l)) e fits k = log_quorum_of A c t Commit x l e fits.body k
shown_by_commit A c t x (values.FastAbort tally) e fits k = k
shown_by_commit A c t x (values.ConflictAbort z) e fits k = k

pub commits_show : (A : Accepted) (c : Setting) (t : TransactionValue) (certificate : CertificateValue)
    → FitsCertificate (bounds_of c) certificate → Commits A c t certificate → CommitShown A c t certificate.body
commits_show A c t certificate fits k = shown_by_commit A c t certificate.id certificate.body k.about fits k.kind

can_commit : (A : Accepted) (c : Setting) (t : TransactionValue) (b : BodyValue) → CommitShown A c t b → CanCommit A c t
can_commit A c t (values.Commits (values.FastCommit tallies)) h = inl h
can_commit A c t (values.Commits (values.Logged l)) h = inr (l.decided, h)
can_commit A c t (values.FastAbort tally) h = absurd h
can_commit A c t (values.ConflictAbort z) h = absurd h

pub commits_can : (A : Accepted) (c : Setting) (t : TransactionValue) (certificate : CertificateValue)
    → FitsCertificate (bounds_of c) certificate → Commits A c t certificate → CanCommit A c t
commits_can A c t certificate fits k = can_commit A c t certificate.body (commits_show A c t certificate fits k)

shown_by_abort : (A : Accepted) (c : Setting) (t : TransactionValue) (x : List ℕ) (b : BodyValue) → x ≡ id t
    → FitsCertificate (bounds_of c) (record { id = x; body = b }) → AllPass (accepts A) (certificate_signed (record { id = x; body = b }))
    → AbortsBy A c t x b → AbortShown A c t b
shown_by_abort A c t x (values.Commits (values.FastCommit tallies)) e fits a k = k
shown_by_abort A c t x (values.Commits (values.Logged l)) e fits a k = log_quorum_of A c t Abort x l e fits.body k
shown_by_abort A c t x (values.FastAbort tally) e fits a k = votes_in_one A c t x (fast_abort c.f) tally e k
shown_by_abort A c t x (values.ConflictAbort z) e fits a k =
    let all = list_all-from_AllPass (accepts A) (certificate_signed (record { id = x; body = values.ConflictAbort z })) a in
    record {
      shard = z.shard;
      voter = z.replica;
      involved = k.shard;
      in_range = fits.body.replica;
      voted = record {
        signature = z.signature;
        accepted = sym (ap (λ (y : List ℕ).
            accepts A (vote_signed z.shard y Abort (record { replica = z.replica; signature = z.signature }))) e) ∙ (and_parts _ _ all).0;
        sized = length_id t;
      };
      conflicts = k.conflicts;
      commits =
          commits_can A c z.other (as_certificate z.proof) (record { id = fits.body.proof.id; body = fits.body.proof.body }) k.committed;
    }

pub aborts_show : (A : Accepted) (c : Setting) (t : TransactionValue) (certificate : CertificateValue)
    → FitsCertificate (bounds_of c) certificate → Aborts A c t certificate → AbortShown A c t certificate.body
aborts_show A c t certificate fits k = shown_by_abort A c t certificate.id certificate.body k.about fits k.accepted k.kind

can_abort : (A : Accepted) (c : Setting) (t : TransactionValue) (b : BodyValue) → AbortShown A c t b → CanAbort A c t
can_abort A c t (values.Commits (values.FastCommit tallies)) h = absurd h
can_abort A c t (values.Commits (values.Logged l)) h = inr (inl (l.decided, h))
can_abort A c t (values.FastAbort tally) h = inl h
can_abort A c t (values.ConflictAbort z) h = inr (inr (z.other, h))

pub aborts_can : (A : Accepted) (c : Setting) (t : TransactionValue) (certificate : CertificateValue)
    → FitsCertificate (bounds_of c) certificate → Aborts A c t certificate → CanAbort A c t
aborts_can A c t certificate fits k = can_abort A c t certificate.body (aborts_show A c t certificate fits k)

pub tallies_show : (A : Accepted) (c : Setting) (t : TransactionValue) (d : Decision) (tallies : List TallyValue) → Tallied A c t d tallies
    → CanLog A c t d
tallies_show A c t Commit tallies k = votes_in_all A c t (id t) (commit_tally c.f) tallies refl k.voted
tallies_show A c t Abort tallies k = votes_in_one A c t (id t) (abort_tally c.f) k.tally refl k.voted
