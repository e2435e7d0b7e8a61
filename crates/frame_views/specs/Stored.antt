-- Certificates by their bytes.
use Rattle.std.specs.Prelude.{ℕ, List, [], Result, Ok, Err, Bool}
use Rattle.basil_types.specs.declared.reading.Fault.{Fault}
use Rattle.basil_types.specs.Lists.{is_whole}
use Rattle.frame_views.specs.Values.{CertificateValue, Commits, FastCommit}
use Rattle.frame_views.specs.Fitting.{widest}
use Rattle.frame_views.specs.Grammar.{certificate_at}

abbrev pub no_certificate : CertificateValue
no_certificate = record { id = []; body = Commits (FastCommit []) }

abbrev pub read_certificate : Result (CertificateValue × List ℕ) Fault → CertificateValue
read_certificate (Ok x) = x.0
read_certificate (Err e) = no_certificate

-- the certificate that bytes spell
abbrev pub certificate_in : List ℕ → CertificateValue
certificate_in bytes = read_certificate (certificate_at widest bytes)

-- these bytes, whole, spell a certificate, whatever cluster it is of
abbrev pub spells_certificate : List ℕ → Bool
spells_certificate bytes = is_whole (certificate_at widest bytes)
