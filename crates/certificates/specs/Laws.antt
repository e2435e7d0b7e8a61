-- What holds of every certificate and of all tallies.
use Rattle.std.specs.Prelude.{◌≡◌, ℕ, List, ◌∷◌, ◌++◌, true, None, ◌↔◌, Contains}
use Rattle.basil_types.specs.declared.party.Party.{Party}
use Rattle.basil_types.specs.declared.party.Decision.{Decision}
use Rattle.basil_types.specs.declared.party.Decision.TheVariants.{Abort}
use Rattle.basil_types.specs.Setting.{Setting, IsSetting}
use Rattle.basil_types.specs.Transaction.{TransactionValue, id}
use Rattle.frame_views.specs.Fitting.{FitsCertificate, FitsTallies, bounds_of}
use Rattle.frame_views.specs.Signed.{SignedBy, vote_signed, one_logged, certificate_signed, tallies_signed}
use Rattle.frame_views.specs.Spelling.{certificate_bytes}
use Rattle.frame_views.specs.Values as values
use Rattle.frame_views.specs.Values.{VoteValue, TallyValue, LogValue, CertificateValue, PairValue}
use Rattle.certificates.specs.Accepted.{Accepted, accepts}
use Rattle.certificates.specs.Deciding.{HasGoodForm, Commits, Aborts, Proves, ProvesConflict}
use Rattle.certificates.specs.Quorums.{CommitShown, AbortShown, CanCommit, CanAbort, CanLog}
use Rattle.certificates.specs.Refusals.{refusal, tallies_refusal, proof_refusal}
use Rattle.certificates.specs.Tallies.{Tallied}

-- there is no refusal exactly where the certificate proves the decision
abbrev pub CertificatesExactly : Type 0
CertificatesExactly =
    (A : Accepted) (c : Setting) (t : TransactionValue) (d : Decision) (certificate : CertificateValue) →
    IsSetting c → FitsCertificate (bounds_of c) certificate → HasGoodForm t →
    (refusal A c t d certificate ≡ None) ↔ Proves A c t d certificate

-- there is no refusal exactly where the tallies let the decision be logged
abbrev pub TalliesExactly : Type 0
TalliesExactly =
    (A : Accepted) (c : Setting) (t : TransactionValue) (d : Decision) (tallies : List TallyValue) →
    IsSetting c → FitsTallies (bounds_of c) tallies → HasGoodForm t →
    (tallies_refusal A c t d tallies ≡ None) ↔ Tallied A c t d tallies

-- there is no refusal exactly where the proof of a vote to abort shows a rival that is committed
abbrev pub ConflictsExactly : Type 0
ConflictsExactly =
    (A : Accepted) (c : Setting) (t : TransactionValue) (p : PairValue) →
    IsSetting c → FitsCertificate (bounds_of c) p.certificate →
    (proof_refusal A c t p ≡ None) ↔ ProvesConflict A c t p

-- each kind of commit certificate shows its quorums
abbrev pub CommitsShow : Type 0
CommitsShow =
    (A : Accepted) (c : Setting) (t : TransactionValue) (certificate : CertificateValue) →
    FitsCertificate (bounds_of c) certificate → Commits A c t certificate → CommitShown A c t certificate.body

-- so each of them can commit
abbrev pub CommitsCan : Type 0
CommitsCan =
    (A : Accepted) (c : Setting) (t : TransactionValue) (certificate : CertificateValue) →
    FitsCertificate (bounds_of c) certificate → Commits A c t certificate → CanCommit A c t

-- each kind of abort certificate shows its quorums
abbrev pub AbortsShow : Type 0
AbortsShow =
    (A : Accepted) (c : Setting) (t : TransactionValue) (certificate : CertificateValue) →
    FitsCertificate (bounds_of c) certificate → Aborts A c t certificate → AbortShown A c t certificate.body

-- so each of them can abort
abbrev pub AbortsCan : Type 0
AbortsCan =
    (A : Accepted) (c : Setting) (t : TransactionValue) (certificate : CertificateValue) →
    FitsCertificate (bounds_of c) certificate → Aborts A c t certificate → CanAbort A c t

-- tallies show the votes that let their decision be logged
abbrev pub TalliesShow : Type 0
TalliesShow =
    (A : Accepted) (c : Setting) (t : TransactionValue) (d : Decision) (tallies : List TallyValue) →
    Tallied A c t d tallies → CanLog A c t d

-- every signature that the one accepts the other accepts too
abbrev pub AcceptsMore : Accepted → Accepted → Type 0
AcceptsMore A B =
    (party : Party) (words signature : List ℕ) → A party words signature ≡ true → B party words signature ≡ true

-- what is proved stays proved as more is accepted
abbrev pub ProofsGrow : Type 0
ProofsGrow =
    (A B : Accepted) (c : Setting) (t : TransactionValue) (d : Decision) (certificate : CertificateValue) →
    IsSetting c → FitsCertificate (bounds_of c) certificate → AcceptsMore A B →
    Proves A c t d certificate → Proves B c t d certificate

-- ---- what a refusal rests on

-- of these signatures both accept the same
abbrev pub AgreeOn : Accepted → Accepted → List SignedBy → Type 0
AgreeOn A B signed = (s : SignedBy) → Contains signed s → accepts A s ≡ accepts B s

-- what the one accepts of these signatures the other accepts too
abbrev pub AcceptsMoreOf : Accepted → Accepted → List SignedBy → Type 0
AcceptsMoreOf A B signed = (s : SignedBy) → Contains signed s → accepts A s ≡ true → accepts B s ≡ true

-- certificates of the same bytes are the same
abbrev pub CertificatesOfBytes : Type 0
CertificatesOfBytes =
    (c : Setting) (x y : CertificateValue) →
    IsSetting c → FitsCertificate (bounds_of c) x → FitsCertificate (bounds_of c) y →
    certificate_bytes x ≡ certificate_bytes y → x ≡ y

-- a refusal is a function of the transaction, of the certificate and of what is accepted of its own signatures
abbrev pub CertificatesAlike : Type 0
CertificatesAlike =
    (A B : Accepted) (c : Setting) (t : TransactionValue) (d : Decision) (certificate : CertificateValue) →
    AgreeOn A B (certificate_signed certificate) → refusal A c t d certificate ≡ refusal B c t d certificate

-- the same of tallies
abbrev pub TalliesAlike : Type 0
TalliesAlike =
    (A B : Accepted) (c : Setting) (t : TransactionValue) (d : Decision) (tallies : List TallyValue) →
    AgreeOn A B (tallies_signed (id t) d tallies) → tallies_refusal A c t d tallies ≡ tallies_refusal B c t d tallies

-- the same of the proof of a vote to abort
abbrev pub ConflictsAlike : Type 0
ConflictsAlike =
    (A B : Accepted) (c : Setting) (t : TransactionValue) (p : PairValue) →
    AgreeOn A B (certificate_signed p.certificate) → proof_refusal A c t p ≡ proof_refusal B c t p

-- where a certificate isn't refused, it isn't where of its own signatures more is accepted
abbrev pub CertificatesCarry : Type 0
CertificatesCarry =
    (A B : Accepted) (c : Setting) (t : TransactionValue) (d : Decision) (certificate : CertificateValue) →
    AcceptsMoreOf A B (certificate_signed certificate) →
    refusal A c t d certificate ≡ None → refusal B c t d certificate ≡ None

-- the same of tallies
abbrev pub TalliesCarry : Type 0
TalliesCarry =
    (A B : Accepted) (c : Setting) (t : TransactionValue) (d : Decision) (tallies : List TallyValue) →
    AcceptsMoreOf A B (tallies_signed (id t) d tallies) →
    tallies_refusal A c t d tallies ≡ None → tallies_refusal B c t d tallies ≡ None

-- the same of the proof of a vote to abort
abbrev pub ConflictsCarry : Type 0
ConflictsCarry =
    (A B : Accepted) (c : Setting) (t : TransactionValue) (p : PairValue) →
    AcceptsMoreOf A B (certificate_signed p.certificate) →
    proof_refusal A c t p ≡ None → proof_refusal B c t p ≡ None

-- ---- one vote or log reply more

-- one vote more in the list of a shard, anywhere in it
pub record AddsVote (tallies longer : List TallyValue) (shard : ℕ) (vote : VoteValue) : Type 0 where
  pub front : List TallyValue
  pub back : List TallyValue
  pub before : List VoteValue
  pub after : List VoteValue
  pub was : tallies ≡ front ++ record { shard = shard; votes = before ++ after } ∷ back
  pub is : longer ≡ front ++ record { shard = shard; votes = before ++ vote ∷ after } ∷ back

-- tallies with one accepted vote more still let the decision be logged
abbrev pub LongerTallies : Type 0
LongerTallies =
    (A : Accepted) (c : Setting) (t : TransactionValue) (d : Decision)
    (tallies longer : List TallyValue) (shard : ℕ) (vote : VoteValue) →
    Tallied A c t d tallies → AddsVote tallies longer shard vote → accepts A (vote_signed shard (id t) d vote) ≡ true →
    Tallied A c t d longer

abbrev pub fast_abort_of : (id : List ℕ) (shard : ℕ) → List VoteValue → CertificateValue
fast_abort_of id shard votes = record { id = id; body = values.FastAbort (record { shard = shard; votes = votes }) }

-- a fast abort with one accepted vote more, anywhere in it, still aborts
abbrev pub LongerFastAborts : Type 0
LongerFastAborts =
    (A : Accepted) (c : Setting) (t : TransactionValue) (id : List ℕ) (shard : ℕ)
    (before after : List VoteValue) (vote : VoteValue) →
    Aborts A c t (fast_abort_of id shard (before ++ after)) → accepts A (vote_signed shard id Abort vote) ≡ true →
    Aborts A c t (fast_abort_of id shard (before ++ vote ∷ after))

abbrev pub logged_of : (id : List ℕ) (shard : ℕ) → Decision → (decided : ℕ) → List LogValue → CertificateValue
logged_of id shard d decided logs =
    record {
      id = id;
      body = values.Commits (values.Logged (record { shard = shard; decision = d; decided = decided; logs = logs }));
    }

-- a logged certificate with one accepted log reply more, anywhere in it, still proves its decision
abbrev pub LongerLogs : Type 0
LongerLogs =
    (A : Accepted) (c : Setting) (t : TransactionValue) (d : Decision) (id : List ℕ) (shard decided : ℕ)
    (before after : List LogValue) (reply : LogValue) →
    Proves A c t d (logged_of id shard d decided (before ++ after)) →
    accepts A (one_logged shard id d decided reply) ≡ true →
    Proves A c t d (logged_of id shard d decided (before ++ reply ∷ after))
