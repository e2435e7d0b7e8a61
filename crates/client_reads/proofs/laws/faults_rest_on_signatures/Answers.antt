use Rattle.client_reads.proofs.FaultLaws.{replies_alike}
use Rattle.client_reads.proofs.laws.faults_rest_on_signatures.Goals as goal

pub returns : goal.returns
returns c = replies_alike c.refusals_rest_on_signatures.ensures.certificates
