use Rattle.std.proofs.Common.{rules}
use Rattle.client_reads.proofs.choice.is_prepared.Goals as goal

pub returns : goal.returns
returns c = search rules
