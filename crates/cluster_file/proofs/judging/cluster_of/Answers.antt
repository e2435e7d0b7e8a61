use Rattle.std.proofs.Common.{rules}
use Rattle.cluster_file.proofs.judging.cluster_of.Goals as goal

pub returns-in-Ok : goal.returns-in-Ok
returns-in-Ok c = search rules
