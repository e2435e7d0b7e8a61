use Rattle.certificates.proofs.GrowthLaws.{proofs_grow}
use Rattle.certificates.proofs.laws.proofs_grow.Goals as goal

pub returns : goal.returns
returns c = proofs_grow
