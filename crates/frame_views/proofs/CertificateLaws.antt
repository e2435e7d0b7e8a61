-- Certificates that stand whole in bytes.
use Rattle.std.proofs.Common.{◌≡◌, ℕ, ◌+◌, ◌≤◌, ◌-◌, true, List, [], ◌++◌, length, take, Result, Ok, Err, refl, sym, ap, subst}
use Rattle.std.proofs.Common.{◌∙◌, length-append, arith}
use Rattle.std.proofs.lemmas.Bool.{eqb-true}
use Rattle.std.proofs.lemmas.List.{append-nil, nil_from_length, take_at}
use Rattle.basil_types.specs.declared.reading.Fault.{Fault}
use Rattle.basil_types.specs.Lists.{is_whole}
use Rattle.basil_types.specs.Texts.{IsBytes}
use Rattle.basil_types.proofs.Fields.{ok_is}
use Rattle.frame_views.specs.declared.bounds.Bounds.{Bounds}
use Rattle.frame_views.specs.Values.{CertificateValue, as_certificate}
use Rattle.frame_views.specs.Spelling.{certificate_bytes, commit_bytes}
use Rattle.frame_views.specs.Fitting.{Within, widest, FitsCertificate, FitsCommit, is_commit}
use Rattle.frame_views.specs.Forms.{made}
use Rattle.frame_views.specs.Grammar.{certificate_at, commit_at}
use Rattle.frame_views.specs.Stored.{certificate_in, spells_certificate, read_certificate}
use Rattle.frame_views.proofs.FormLaws.{made_takes}
use Rattle.frame_views.proofs.GrammarLaws.{certificate_law, commit_law}

-- what was taken, whatever followed it
taken : (bytes text rest : List ℕ) → bytes ≡ text ++ rest → (length rest ≤ length bytes) × (take (length bytes - length rest) bytes ≡ text)
taken bytes text rest e =
    let total : length bytes ≡ length text + length rest = ap length e ∙ length-append text rest in
    let len : length bytes - length rest ≡ length text = omega arith in
    (omega arith, rw (len, e) (take_at text rest (length text) refl))

pub record IsCut (bytes rest : List ℕ) (c : CertificateValue) : Type 0 where
  pub shorter : length rest ≤ length bytes
  pub spells : spells_certificate (take (length bytes - length rest) bytes) ≡ true
  pub is : certificate_in (take (length bytes - length rest) bytes) ≡ c

pub within-self : Within widest widest
within-self = record { shards = omega arith; replicas = omega arith }

wider : (b : Bounds) → Within b widest → (c : CertificateValue) → FitsCertificate b c
    → certificate_at widest (certificate_bytes c) ≡ Ok (c, [])
wider b w c fits = ap (certificate_at widest) (sym (append-nil (certificate_bytes c))) ∙ (certificate_law b widest w).again c [] fits

cut : (b : Bounds) → Within b widest → (bytes : List ℕ) (c : CertificateValue) (rest : List ℕ) → bytes ≡ certificate_bytes c ++ rest
    → FitsCertificate b c → IsCut bytes rest c
cut b w bytes c rest parts fits =
    let t = taken bytes (certificate_bytes c) rest parts in
    let again : certificate_at widest (take (length bytes - length rest) bytes) ≡ Ok (c, []) =
    ap (certificate_at widest) t.1 ∙ wider b w c fits in
    record { shorter = t.0; spells = ap is_whole again; is = ap read_certificate again }

pub certificate_cut : (b : Bounds) → Within b widest → (bytes : List ℕ) (x : CertificateValue × List ℕ) → IsBytes bytes
    → certificate_at b bytes ≡ Ok x → IsCut bytes x.1 x.0
certificate_cut b w bytes x fits e =
    let t = (certificate_law b widest w).takes bytes x fits e in
    cut b w bytes x.0 x.1 t.0.parts t.1

pub commit_cut : (b : Bounds) → Within b widest → (bytes : List ℕ) (x : CertificateValue × List ℕ) → IsBytes bytes
    → made as_certificate (commit_at b) bytes ≡ Ok x → IsCut bytes x.1 x.0 × (is_commit x.0.body ≡ true)
commit_cut b w bytes x fits e =
    let t = made_takes as_certificate (commit_at b) (commit_at widest) commit_bytes (FitsCommit b) (commit_law b widest w) bytes x fits e in
    let is : IsCut bytes x.1 (as_certificate t.0) = cut b w bytes (as_certificate t.0) x.1 t.2.parts
    (record { id = t.3.id; body = t.3.body }) in
    subst (λ (c : CertificateValue). IsCut bytes x.1 c × (is_commit c.body ≡ true)) t.1 (is, refl)

pub whole-is : (bytes : List ℕ) → spells_certificate bytes ≡ true → certificate_at widest bytes ≡ Ok (certificate_in bytes, [])
whole-is bytes e = by (certificate_at widest bytes) e
  where
    by : (r : Result (CertificateValue × List ℕ) Fault) → is_whole r ≡ true → r ≡ Ok (read_certificate r, [])
    by (Ok x) whole = ap (λ (t : List ℕ). Ok (x.0, t)) (nil_from_length x.1 (eqb-true _ _ whole))
    by (Err f) whole = absurd cc

pub whole-spelled : (bytes : List ℕ) → IsBytes bytes → spells_certificate bytes ≡ true → (bytes ≡ certificate_bytes (certificate_in bytes))
    × FitsCertificate widest (certificate_in bytes)
whole-spelled bytes fits e =
    let t = (certificate_law widest widest within-self).takes bytes (certificate_in bytes, []) fits (whole-is bytes e) in
    (t.0.parts ∙ append-nil (certificate_bytes (certificate_in bytes)), t.1)

pub whole-never : (bytes : List ℕ) (f : Fault) → spells_certificate bytes ≡ true → certificate_at widest bytes ≡ Err f → ⊥
whole-never bytes f e h =
    let is = whole-is bytes e in
    cc

pub whole-shows : (bytes : List ℕ) (x : CertificateValue × List ℕ) → spells_certificate bytes ≡ true → certificate_at widest bytes ≡ Ok x
    → x.0 ≡ certificate_in bytes
whole-shows bytes x e h = ap (λ (p : CertificateValue × List ℕ). p.0) (ok_is x (certificate_in bytes, []) (sym h ∙ whole-is bytes e))

-- what fits is spelled by bytes that may be viewed again
pub again-spells : (b : Bounds) → Within b widest → (c : CertificateValue) → FitsCertificate b c
    → (spells_certificate (certificate_bytes c) ≡ true) × (certificate_in (certificate_bytes c) ≡ c)
again-spells b w c fits = let again = wider b w c fits in (ap is_whole again, ap read_certificate again)
