-- Certificates and tallies over accepted signatures, in the terms of the laws.
use Rattle.std.specs.Prelude.{ℕ}
use Rattle.basil_types.specs.declared.party.Decision as parties
use Rattle.basil_types.specs.declared.party.Decision.TheVariants as declared
use Rattle.basil_types.specs.Transaction.{TransactionValue, id}
use Rattle.frame_views.specs.Fitting.{FitsCertificate, bounds_of}
use Rattle.frame_views.specs.Values as values
use Rattle.frame_views.specs.Values.{BodyValue, CertificateValue}
use Rattle.certificates.specs.Accepted.{Accepted}
use Rattle.certificates.specs.Deciding.{Commits, Aborts}
use Rattle.certificates.specs.Quorums as shown
use Rattle.certificates.specs.Quorums.{vote_words, log_words, AbortShown, CanLog}
use Rattle.agreement_laws.specs.Words.{Decision, Commit, Abort, Vote, LogReply}
use Rattle.agreement_laws.specs.Certificates.{Signed, Says, Tallied, CanCommit, CanAbort}
use Rattle.serial_laws.specs.Bases.{Basis, IsText, setting_of}

abbrev pub decision_of : parties.Decision → Decision
decision_of declared.Commit = Commit
decision_of declared.Abort = Abort

-- no forged signature is accepted: what is accepted of a correct replica it has signed
pub record NoneForged (A : Accepted) (b : Basis) (signed : Signed) : Type 0 where
  pub votes : (t : TransactionValue) (s r : ℕ) (d : parties.Decision) → shown.Says A s r (vote_words t s r d) →
      Says (setting_of b) signed s r (Vote s r (id t) (decision_of d))
  pub logs : (t : TransactionValue) (s r : ℕ) (d : parties.Decision) (v w : ℕ) →
      shown.Says A s r (log_words t s r d v w) →
      Says (setting_of b) signed s r (LogReply s r (id t) (decision_of d) v w)

-- what can be committed over accepted signatures can be so in the laws
abbrev pub CommitsAreCommits : Type 0
CommitsAreCommits =
    (A : Accepted) (b : Basis) (signed : Signed) → NoneForged A b signed →
    (t : TransactionValue) → IsText b t → shown.CanCommit A b.numbers t → CanCommit (setting_of b) signed (id t)

-- the transaction that a certificate carries, the rival of a conflict, is a text of the run
abbrev pub CarriesText : Basis → BodyValue → Type 0
CarriesText b (values.Commits body) = Unit {0}
CarriesText b (values.FastAbort tally) = Unit {0}
CarriesText b (values.ConflictAbort x) = IsText b x.other

-- what an abort certificate shows can be shown in the laws
abbrev pub AbortsAreAborts : Type 0
AbortsAreAborts =
    (A : Accepted) (b : Basis) (signed : Signed) → NoneForged A b signed →
    (t : TransactionValue) → IsText b t → (body : BodyValue) → CarriesText b body →
    AbortShown A b.numbers t body → CanAbort (setting_of b) signed (id t)

-- tallies that let a decision be logged do so in the laws
abbrev pub TalliesAreTallies : Type 0
TalliesAreTallies =
    (A : Accepted) (b : Basis) (signed : Signed) → NoneForged A b signed →
    (t : TransactionValue) → IsText b t →
    (d : parties.Decision) → CanLog A b.numbers t d → Tallied (setting_of b) signed (id t) (decision_of d)

-- a certificate that decides a transaction is one of the laws
pub record IsCertificate (A : Accepted) (b : Basis) (signed : Signed) (t : TransactionValue)
    (certificate : CertificateValue) : Type 0 where
  pub commits : Commits A b.numbers t certificate → CanCommit (setting_of b) signed (id t)
  pub aborts : Aborts A b.numbers t certificate → CanAbort (setting_of b) signed (id t)

abbrev pub CertificatesAreCertificates : Type 0
CertificatesAreCertificates =
    (A : Accepted) (b : Basis) (signed : Signed) → NoneForged A b signed →
    (t : TransactionValue) → IsText b t → (certificate : CertificateValue) →
    FitsCertificate (bounds_of b.numbers) certificate → CarriesText b certificate.body →
    IsCertificate A b signed t certificate
