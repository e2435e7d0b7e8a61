-- The proof of a vote to abort.
use Rattle.std.proofs.Common.{◌≡◌, Bool, true, false, cond, Option, None, Some, refl, sym, ap, subst}
use Rattle.std.specs.Prelude.{is_none, Result}
use Rattle.basil_types.specs.Refusals.{Refuses}
use Rattle.basil_types.specs.Built.{or_else}
use Rattle.basil_types.specs.Setting.{Setting, IsSetting}
use Rattle.basil_types.specs.Transaction.{TransactionValue}
use Rattle.frame_views.specs.Fitting.{FitsCertificate, bounds_of}
use Rattle.frame_views.specs.Signed.{certificate_signed}
use Rattle.frame_views.specs.Values.{PairValue}
use Rattle.txn_meta.specs.Conflicts.{conflict}
use Rattle.txn_meta.specs.Form.{form_fault}
use Rattle.txn_meta.specs.declared.form.FormFault.{FormFault}
use Rattle.certificates.specs.declared.refusal.CertRefusal.{CertRefusal}
use Rattle.certificates.specs.declared.refusal.CertRefusal.TheVariants.{NoConflict}
use Rattle.certificates.specs.Accepted.{Accepted}
use Rattle.certificates.specs.Deciding.{HasGoodForm, ProvesConflict}
use Rattle.certificates.specs.Laws.{ConflictsExactly}
use Rattle.certificates.specs.Refusals.{ill_formed, no_rival, proof_refusal}
use Rattle.certificates.proofs.CountLaws.{none_refused, refused_none}
use Rattle.certificates.proofs.DecideLaws.{split_none, join_none, commits_from, commits_to}

-- a test that is passed leaves what follows
pub passed_on : (r : Result (Unit {0}) CertRefusal) (o rest : Option CertRefusal) → o ≡ None → Refuses r rest → Refuses r (or_else o rest)
passed_on r o rest e h = subst (λ (q : Option CertRefusal). Refuses r (or_else q rest)) (sym e) h

formed : (t : TransactionValue) → ill_formed t ≡ None → HasGoodForm t
formed t h = by (form_fault t) h
  where
    by : (o : Option FormFault) → cond (is_none o) None (Some NoConflict) ≡ None → o ≡ None
    by None e = refl
    by (Some fault) e = absurd cc

not_ill_formed : (t : TransactionValue) → HasGoodForm t → ill_formed t ≡ None
not_ill_formed t f = ap (λ (o : Option FormFault). cond (is_none o) None (Some NoConflict)) f

is_rival : (t : TransactionValue) (p : PairValue) → no_rival t p ≡ None → conflict t p.transaction ≡ true
is_rival t p h = by (conflict t p.transaction) h
  where
    by : (b : Bool) → cond b None (Some NoConflict) ≡ None → b ≡ true
    by true e = refl
    by false e = absurd cc

rival_there : (t : TransactionValue) (p : PairValue) → conflict t p.transaction ≡ true → no_rival t p ≡ None
rival_there t p h = ap (λ (b : Bool). cond b None (Some NoConflict)) h

conflict_from : (A : Accepted) (c : Setting) (t : TransactionValue) (p : PairValue) → IsSetting c
    → FitsCertificate (bounds_of c) p.certificate → proof_refusal A c t p ≡ None → ProvesConflict A c t p
conflict_from A c t p i fits h =
    let form = split_none _ _ h in
    let ids = split_none _ _ form.1 in
    let decision = split_none _ _ ids.1 in
    let shards = split_none _ _ decision.1 in
    let counts = split_none _ _ shards.1 in
    let rival = split_none _ _ counts.1 in
    record {
      conflicts = is_rival t p rival.0;
      committed = commits_from A c p.transaction p.certificate i fits (formed p.transaction form.0) (record {
        id = ids.0;
        decision = decision.0;
        shards = shards.0;
        counts = counts.0;
        accepted = none_refused A (certificate_signed p.certificate) rival.1;
      });
    }

conflict_to : (A : Accepted) (c : Setting) (t : TransactionValue) (p : PairValue) → FitsCertificate (bounds_of c) p.certificate
    → ProvesConflict A c t p → proof_refusal A c t p ≡ None
conflict_to A c t p fits k =
    let passed = commits_to A c p.transaction p.certificate fits k.committed in
    join_none _ _ (not_ill_formed p.transaction k.committed.form)
    (join_none _ _ passed.id
    (join_none _ _ passed.decision
    (join_none _ _ passed.shards
    (join_none _ _ passed.counts
    (join_none _ _ (rival_there t p k.conflicts)
    (refused_none A (certificate_signed p.certificate) passed.accepted))))))

pub conflicts_exactly : ConflictsExactly
conflicts_exactly A c t p i fits = (conflict_from A c t p i fits, conflict_to A c t p fits)
