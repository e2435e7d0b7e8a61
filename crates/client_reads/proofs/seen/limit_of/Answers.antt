use Rattle.std.proofs.Common.{rules}
use Rattle.client_reads.proofs.seen.limit_of.Goals as goal

pub returns : goal.returns
returns c = search rules
