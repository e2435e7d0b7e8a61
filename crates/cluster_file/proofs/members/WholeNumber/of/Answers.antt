use Rattle.std.proofs.Common.{rules}
use Rattle.cluster_file.proofs.members.WholeNumber.of.Goals as goal

pub invariant_of-result : goal.invariant_of-result
invariant_of-result c = search rules
