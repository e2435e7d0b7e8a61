use Rattle.std.proofs.Common.{rules}
use Rattle.client_reads.proofs.certificate.check_certificate.Goals as goal

pub returns-in-Err : goal.returns-in-Err
returns-in-Err g c = search rules
