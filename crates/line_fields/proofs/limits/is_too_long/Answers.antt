use Rattle.std.proofs.Common.{rules}
use Rattle.line_fields.proofs.limits.is_too_long.Goals as goal

pub returns : goal.returns
returns c = search rules
