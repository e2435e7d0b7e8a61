-- Pairs inside of conflict aborts.
use Rattle.std.proofs.Common.{◌≡◌, ℕ, List, Bool, true, false, cond, refl, sym, subst, Some, None, ap, ◌∙◌, Bor}
use Rattle.std.specs.Prelude.{is_none, Option, option_map, ◌==◌}
use Rattle.txn_meta.specs.declared.form.FormFault.{FormFault}
use Rattle.txn_meta.specs.declared.form.FormFault.TheVariants.{Empty, ZeroTime, ReadNotBelow}
use Rattle.txn_meta.specs.Form.{form_fault, is_empty, first_not_below}
use Rattle.basil_types.specs.Transaction.{TransactionValue, version_of}
use Rattle.frame_views.specs.Fitting.{is_commit}
use Rattle.frame_views.specs.Values.{CertificateValue, ConflictValue, BodyValue, Commits, FastAbort, ConflictAbort, as_commit}
use Rattle.frame_views.specs.Values.{as_certificate}
use Rattle.basil_types.specs.declared.transaction.view.TransactionView.{TransactionView}
use Rattle.basil_types.specs.Shown.{transaction_of}
use Rattle.frame_views.specs.declared.certificates.view.CertificateView.{CertificateView}
use Rattle.frame_views.specs.declared.certificates.body.CertBody.{CertBody}
use Rattle.frame_views.specs.declared.certificates.body.CertBody.TheVariants as shown
use Rattle.frame_views.specs.Shown.{body_of, certificate_of, HoldsCommit}
use Rattle.certificates.specs.declared.pair.Pair.{Pair}
use Rattle.certificates.specs.Refusals.{PairValue, nested_in}
use Rattle.certificates.specs.Pairs.{pair_of}

-- a certificate of a kind that may commit, seen as one
pub seen_again : (c : CertificateValue) → is_commit c.body ≡ true → as_certificate (as_commit c) ≡ c
seen_again c h = by c.body h where
  by : (b : BodyValue) → is_commit b ≡ true → as_certificate (as_commit (record { id = c.id; body = b })) ≡ record { id = c.id; body = b }
  by (Commits body) h = refl
  by (FastAbort tally) h = absurd cc
  by (ConflictAbort x) h = absurd cc

pub nested_good : (x : ConflictValue) (c : CertificateValue) → x.proof ≡ as_commit c → is_commit c.body ≡ true → form_fault x.other ≡ None
    → nested_in (ConflictAbort x) ≡ Some (record { transaction = x.other; certificate = c })
nested_good x c e h f =
    ap (λ (o : Option FormFault). cond (is_none o) (Some (record { transaction = x.other; certificate = as_certificate x.proof })) None) f
    ∙ ap (λ (d : CertificateValue). Some (record { transaction = x.other; certificate = d })) (ap as_certificate e ∙ seen_again c h)

pub nested_bad : (x : ConflictValue) (fault : FormFault) → form_fault x.other ≡ Some fault → nested_in (ConflictAbort x) ≡ None
nested_bad x fault f =
    ap (λ (o : Option FormFault). cond (is_none o) (Some (record { transaction = x.other; certificate = as_certificate x.proof })) None) f

abbrev conflict_of : ℕ → ℕ → Bor (List ℕ) → TransactionView → CertificateView → ConflictValue
conflict_of shard replica signature other proof = record {
  shard = shard;
  replica = replica;
  signature = signature.now;
  other = transaction_of other;
  proof = as_commit (certificate_of proof);
}

-- the same of views
pub inner_good : (b : CertBody) (shard replica : ℕ)
    (signature : Bor (List ℕ)) (other : TransactionView) (proof : CertificateView) (p : Pair)
    → b ≡ shown.ConflictAbort shard replica signature other proof → HoldsCommit b → form_fault (transaction_of other) ≡ None
    → pair_of p ≡ record { transaction = transaction_of other; certificate = certificate_of proof }
    → Some (pair_of p) ≡ nested_in (body_of b)
inner_good b shard replica signature other proof p e h f i =
    ap (λ (q : PairValue). Some q) i
    ∙ sym (nested_good (conflict_of shard replica signature other proof) (certificate_of proof) refl (subst HoldsCommit e h) f)
    ∙ sym (ap (λ z. nested_in (body_of z)) e)

pub inner_bad : (b : CertBody) (shard replica : ℕ)
    (signature : Bor (List ℕ)) (other : TransactionView) (proof : CertificateView) (fault : FormFault)
    → b ≡ shown.ConflictAbort shard replica signature other proof → form_fault (transaction_of other) ≡ Some fault
    → None ≡ nested_in (body_of b)
inner_bad b shard replica signature other proof fault e f =
    sym (ap (λ z. nested_in (body_of z)) e ∙ nested_bad (conflict_of shard replica signature other proof) fault f)

-- ---- forms

pub not_empty : (t : TransactionValue) → form_fault t ≡ None → is_empty t ≡ false
not_empty t h = by (is_empty t) h where
  by : (b : Bool)
      → cond b (Some Empty) (cond (t.time == 0) (Some ZeroTime) (option_map ReadNotBelow (first_not_below (version_of t) t.reads))) ≡ None
      → b ≡ false
  by true h = absurd cc
  by false h = refl
