use Rattle.certificates.proofs.RestLaws.{same_bytes}
use Rattle.certificates.proofs.laws.bytes_tell_certificates.Goals as goal

pub returns : goal.returns
returns c = same_bytes c.kept_certificate.ensures.same
