-- Which keys the test of a certificate needs.
use Rattle.std.specs.Prelude.{List, true, map, Option}
use Rattle.basil_types.specs.declared.party.Party.{Party}
use Rattle.basil_types.specs.Setting.{Setting}
use Rattle.basil_types.specs.Transaction.{TransactionValue}
use Rattle.certificates.specs.Accepted.{Accepted}
use Rattle.certificates.specs.Refusals.{decision_of, refusal}
use Rattle.certificates.specs.declared.refusal.CertRefusal.{CertRefusal}
use Rattle.frame_views.specs.Signed.{SignedBy, certificate_signed}
use Rattle.frame_views.specs.Values.{CertificateValue}

-- every signature is accepted: what is refused then is refused for something else
abbrev pub all_accepted : Accepted
all_accepted party words signature = true

abbrev pub signer : SignedBy → Party
signer s = s.party

-- the parties of a certificate's signatures, one for each
abbrev pub signers : CertificateValue → List Party
signers certificate = map signer (certificate_signed certificate)

-- of a certificate for the decision that it is for
abbrev pub own_refusal : Accepted → Setting → TransactionValue → CertificateValue → Option CertRefusal
own_refusal A cluster t c = refusal A cluster t (decision_of c.body) c
