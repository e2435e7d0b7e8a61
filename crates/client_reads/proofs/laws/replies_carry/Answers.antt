use Rattle.client_reads.proofs.FaultLaws.{replies_carry}
use Rattle.client_reads.proofs.laws.replies_carry.Goals as goal

pub returns : goal.returns
returns c = replies_carry c.proofs_carry.ensures.certificates
