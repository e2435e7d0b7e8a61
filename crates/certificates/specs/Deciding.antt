-- Certificates that decide a transaction (Basil, commit and abort certificates).
use Rattle.std.specs.Prelude.{◌≡◌, ℕ, List, true, None}
use Rattle.basil_types.specs.declared.party.Decision.{Decision}
use Rattle.basil_types.specs.declared.party.Decision.TheVariants.{Commit, Abort}
use Rattle.basil_types.specs.Setting.{Setting}
use Rattle.basil_types.specs.Transaction as transactions
use Rattle.basil_types.specs.Transaction.{TransactionValue}
use Rattle.frame_views.specs.Signed.{certificate_signed}
use Rattle.frame_views.specs.Values as values
use Rattle.frame_views.specs.Values.{LoggedValue, ConflictValue, BodyValue, CertificateValue, PairValue, as_certificate}
use Rattle.quorum_laws.specs.Numbers.{fast_commit, fast_abort}
use Rattle.txn_meta.specs.Conflicts.{conflict}
use Rattle.txn_meta.specs.Form.{form_fault}
use Rattle.txn_meta.specs.Places.{involves, log_shard}
use Rattle.certificates.specs.Accepted.{Accepted, AllAccepted}
use Rattle.certificates.specs.Voters.{Logged}
use Rattle.certificates.specs.Tallies.{VotedInAll, VotedInOne}

abbrev pub HasGoodForm : TransactionValue → Type 0
HasGoodForm t = form_fault t ≡ None

-- this decision, logged by a log quorum of the log shard in one view
pub record LoggedAs (A : Accepted) (c : Setting) (t : TransactionValue) (decision : Decision) (voted_on : List ℕ)
    (logged : LoggedValue) : Type 0 where
  pub decides : logged.decision ≡ decision
  pub shard : logged.shard ≡ log_shard c t
  pub replies : Logged A c.f voted_on logged

-- the kinds that commit: every replica of each involved shard voted so, or it is logged
abbrev pub CommitsBy : Accepted → Setting → TransactionValue → List ℕ → BodyValue → Type 0
CommitsBy A c t id (values.Commits (values.FastCommit tallies)) = VotedInAll A c t id (fast_commit c.f) tallies
CommitsBy A c t id (values.Commits (values.Logged logged)) = LoggedAs A c t Commit id logged
CommitsBy A c t id (values.FastAbort tally) = ⊥
CommitsBy A c t id (values.ConflictAbort x) = ⊥

-- a commit certificate of the transaction
pub record Commits (A : Accepted) (c : Setting) (t : TransactionValue) (certificate : CertificateValue) : Type 0 where
  pub form : HasGoodForm t
  pub about : certificate.id ≡ transactions.id t
  pub kind : CommitsBy A c t certificate.id certificate.body
  pub accepted : AllAccepted A (certificate_signed certificate)

-- a vote of an involved shard, and a committed transaction that conflicts
pub record Conflicts (A : Accepted) (c : Setting) (t : TransactionValue) (x : ConflictValue) : Type 0 where
  pub shard : involves c t x.shard ≡ true
  pub conflicts : conflict t x.other ≡ true
  pub committed : Commits A c x.other (as_certificate x.proof)

-- the kinds that abort
abbrev pub AbortsBy : Accepted → Setting → TransactionValue → List ℕ → BodyValue → Type 0
AbortsBy A c t id (values.Commits (values.FastCommit tallies)) = ⊥
AbortsBy A c t id (values.Commits (values.Logged logged)) = LoggedAs A c t Abort id logged
AbortsBy A c t id (values.FastAbort tally) = VotedInOne A c t id (fast_abort c.f) tally
AbortsBy A c t id (values.ConflictAbort x) = Conflicts A c t x

-- an abort certificate of the transaction
pub record Aborts (A : Accepted) (c : Setting) (t : TransactionValue) (certificate : CertificateValue) : Type 0 where
  pub form : HasGoodForm t
  pub about : certificate.id ≡ transactions.id t
  pub kind : AbortsBy A c t certificate.id certificate.body
  pub accepted : AllAccepted A (certificate_signed certificate)

-- a certificate of the transaction for this decision
abbrev pub Proves : Accepted → Setting → TransactionValue → Decision → CertificateValue → Type 0
Proves A c t Commit certificate = Commits A c t certificate
Proves A c t Abort certificate = Aborts A c t certificate

-- a proof that a transaction may not commit: one that conflicts is committed
pub record ProvesConflict (A : Accepted) (c : Setting) (t : TransactionValue) (p : PairValue) : Type 0 where
  pub conflicts : conflict t p.transaction ≡ true
  pub committed : Commits A c p.transaction p.certificate
