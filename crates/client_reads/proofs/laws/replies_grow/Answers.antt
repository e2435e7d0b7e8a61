use Rattle.client_reads.proofs.FaultLaws.{replies_grow}
use Rattle.client_reads.proofs.laws.replies_grow.Goals as goal

pub returns : goal.returns
returns c = replies_grow c.proofs_grow.ensures
