use Rattle.std.proofs.Common.{rules}
use Rattle.line_fields.proofs.fields.escapes.read_key.Goals as goal

pub returns : goal.returns
returns c = search rules
