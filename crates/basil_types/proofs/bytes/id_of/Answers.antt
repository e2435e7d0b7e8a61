use Rattle.std.proofs.Common.{rules}
use Rattle.basil_types.proofs.bytes.id_of.Goals as goal

pub returns : goal.returns
returns c = search rules
