use Rattle.std.proofs.Common.{rules}
use Rattle.client_text.proofs.ops.read_op.Goals as goal

pub returns-in_default : goal.returns-in_default
returns-in_default c = search rules
