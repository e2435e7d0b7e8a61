use Rattle.client_reads.proofs.FaultLaws.{replies_exactly}
use Rattle.client_reads.proofs.laws.replies_exactly.Goals as goal

pub returns : goal.returns
returns c = replies_exactly c.no_refusal_exactly.ensures.certificates
