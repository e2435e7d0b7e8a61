-- Certificates over accepted signatures.
use Rattle.std.proofs.Common.{◌≡◌, ℕ, true, inl, inr, refl, ap, sym, ◌∙◌, subst}
use Rattle.std.specs.Prelude.{◌||◌, ◌==◌}
use Rattle.std.proofs.lemmas.Bool.{and_parts, and_from, or_cases, or_left, or_right, eq-eqb}
use Rattle.basil_types.specs.Setting as cluster
use Rattle.basil_types.specs.declared.party.Decision.{Decision}
use Rattle.basil_types.specs.declared.party.Decision.TheVariants as declared
use Rattle.basil_types.specs.Transaction.{TransactionValue, id}
use Rattle.basil_types.proofs.MemberLaws.{hit_of, hit_from}
use Rattle.quorum_laws.specs.Numbers.{replicas, log_quorum}
use Rattle.quorum_laws.specs.Sets.{Quorum}
use Rattle.quorum_laws.proofs.Quorums.{weaker}
use Rattle.txn_meta.specs.Conflicts.{differ, crosses, is_crossed, conflict, crosses_in, is_crossed_in, conflict_in}
use Rattle.txn_meta.specs.Places.{shard_of, involves, log_shard}
use Rattle.frame_views.specs.Values as values
use Rattle.frame_views.specs.Values.{BodyValue}
use Rattle.certificates.specs.Accepted.{Accepted}
use Rattle.certificates.specs.Laws.{CommitsCan, AbortsShow}
use Rattle.certificates.specs.Quorums as shown
use Rattle.certificates.specs.Quorums.{VoteQuorum, VotesInAll, LogReplyQuorum, LosesTo, AbortShown, CanLog}
use Rattle.agreement_laws.specs.Words.{Commit, LogReply}
use Rattle.agreement_laws.specs.Certificates.{Signed, Says, Voted, Tallied, Logged, CanCommit, CanAbort, ConflictAbort}
use Rattle.serial_laws.specs.Bases.{Basis, IsText, setting_of}
use Rattle.law_joins.specs.Shown.{decision_of, NoneForged, CommitsAreCommits, CarriesText, AbortsAreAborts, TalliesAreTallies}
use Rattle.law_joins.specs.Shown.{CertificatesAreCertificates}

-- ---- two that conflict do so on the keys of some shard, whatever numbers the cluster has

crossed_somewhere : (c : cluster.Setting) (t u : TransactionValue) → is_crossed t u ≡ true → (s : ℕ) × (is_crossed_in c s t u ≡ true)
crossed_somewhere c t u h =
    let r = hit_of (crosses u t) t.reads h in
    let s = shard_of c (r.0).key in
    (s, hit_from (crosses_in c s u t) t.reads r.0 r.1 (and_from (s == s) (crosses u t r.0) (eq-eqb s s refl) r.2))

conflict_somewhere : (c : cluster.Setting) (t u : TransactionValue) → conflict t u ≡ true → (s : ℕ) × (conflict_in c s t u ≡ true)
conflict_somewhere c t u h =
    let p = and_parts (differ t u) (is_crossed t u || is_crossed u t) h in
    elim (or_cases (is_crossed t u) (is_crossed u t) p.1) [
      | inl k ↦ let o = crossed_somewhere c t u k in (o.0, or_left (is_crossed_in c o.0 t u) (is_crossed_in c o.0 u t) o.1)
      | inr k ↦ let o = crossed_somewhere c u t k in (o.0, or_right (is_crossed_in c o.0 t u) (is_crossed_in c o.0 u t) o.1)
    ]

-- ---- quorums

module _ (A : Accepted) (b : Basis) (signed : Signed) (none : NoneForged A b signed) (t : TransactionValue) (text : IsText b t) where
  involved_back : (s : ℕ) → involves b.numbers (b.text (id t)) s ≡ true → involves b.numbers t s ≡ true
  involved_back s h = ap (λ z. involves b.numbers z s) (sym text) ∙ h

  involved_there : (s : ℕ) → involves b.numbers t s ≡ true → involves b.numbers (b.text (id t)) s ≡ true
  involved_there s h = ap (λ z. involves b.numbers z s) text ∙ h

  voted : (s k : ℕ) (d : Decision) → VoteQuorum A b.numbers t s d k → Voted (setting_of b) signed (id t) s (decision_of d) k
  voted s k d q = weaker _ _ (λ r _ h. none.votes t s r d h) q

  all_voted : (k : ℕ) → VotesInAll A b.numbers t k → (s : ℕ) → involves b.numbers (b.text (id t)) s ≡ true →
      Voted (setting_of b) signed (id t) s Commit k
  all_voted k h s i = voted s k declared.Commit (h s (involved_back s i))

  logged : (d : Decision) (v : ℕ) → LogReplyQuorum A b.numbers t d v → Logged (setting_of b) signed (id t) (decision_of d) v
  logged d v q =
      let own = log_shard b.numbers t in
      let L : ℕ → Type 0 = λ s. Quorum (replicas b.numbers.f) (log_quorum b.numbers.f)
      (λ r. (current : ℕ) × Says (setting_of b) signed s r (LogReply s r (id t) (decision_of d) v current)) in
      subst L (ap (log_shard b.numbers) (sym text)) (weaker _ _ (λ r _ h. (h.0, none.logs t own r d v h.0 h.1)) q)

  commits : shown.CanCommit A b.numbers t → CanCommit (setting_of b) signed (id t)
  commits (inl h) = inl (all_voted _ h)
  commits (inr h) = inr (h.0, logged declared.Commit h.0 h.1)

  tallied : (d : Decision) → CanLog A b.numbers t d → Tallied (setting_of b) signed (id t) (decision_of d)
  tallied declared.Commit h = all_voted _ h
  tallied declared.Abort h = (h.0, involved_there h.0 h.1, voted h.0 _ declared.Abort h.2)

  loses : CommitsAreCommits → (rival : TransactionValue) → IsText b rival → LosesTo A b.numbers t rival →
      ConflictAbort (setting_of b) signed (id t)
  loses commit rival there x =
      let o = conflict_somewhere b.numbers t rival x.conflicts in
      record {
        voter_shard = x.shard;
        voter = x.voter;
        of_involved = involved_there x.shard x.involved;
        in_range = x.in_range;
        voted = none.votes t x.shard x.voter declared.Abort x.voted;
        rival = id rival;
        shard = o.0;
        conflicts = (λ j. conflict_in b.numbers o.0 (text j) (there j)) ∙ o.1;
        commits = commit A b signed none rival there x.commits;
      }

  aborts : CommitsAreCommits → (body : BodyValue) → CarriesText b body → AbortShown A b.numbers t body →
      CanAbort (setting_of b) signed (id t)
  aborts commit (values.Commits (values.FastCommit tallies)) there h = absurd h
  aborts commit (values.Commits (values.Logged l)) there h = inr (inl (l.decided, logged declared.Abort l.decided h))
  aborts commit (values.FastAbort tally) there h = inl (h.0, involved_there h.0 h.1, voted h.0 _ declared.Abort h.2)
  aborts commit (values.ConflictAbort x) there h = inr (inr (loses commit x.other there h))

pub commits_are_commits : CommitsAreCommits
commits_are_commits A b signed none t text h = commits A b signed none t text h

pub aborts_are_aborts : CommitsAreCommits → AbortsAreAborts
aborts_are_aborts commit A b signed none t text body there h = aborts A b signed none t text commit body there h

pub tallies_are_tallies : TalliesAreTallies
tallies_are_tallies A b signed none t text d h = tallied A b signed none t text d h

pub certificates_are_certificates : CommitsCan → AbortsShow → CommitsAreCommits → AbortsAreAborts → CertificatesAreCertificates
certificates_are_certificates can show commit abort A b signed none t text certificate fits there = record {
  commits = λ h. commit A b signed none t text (can A b.numbers t certificate fits h);
  aborts = λ h. abort A b signed none t text certificate.body there (show A b.numbers t certificate fits h);
}
