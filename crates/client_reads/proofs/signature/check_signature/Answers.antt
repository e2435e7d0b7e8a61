use Rattle.std.proofs.Common.{rules}
use Rattle.client_reads.proofs.signature.check_signature.Goals as goal

pub returns-then-accepts : goal.returns-then-accepts
returns-then-accepts g c = search rules

pub returns-else-accepts : goal.returns-else-accepts
returns-else-accepts g c = search rules
