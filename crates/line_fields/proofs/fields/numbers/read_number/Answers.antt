use Rattle.std.proofs.Common.{rules}
use Rattle.line_fields.specs.Fields.{number}
use Rattle.line_fields.proofs.fields.numbers.read_number.Goals as goal

pub returns : goal.returns
unfolding number
returns c = search rules
