use Rattle.std.proofs.Common.{rules}
use Rattle.cluster_file.proofs.draft.read_draft.Goals as goal

pub returns : goal.returns
returns c = search rules
