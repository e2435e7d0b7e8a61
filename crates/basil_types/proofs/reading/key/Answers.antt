use Rattle.std.proofs.Common.{rules}
use Rattle.basil_types.specs.Reading.{key_at}
use Rattle.basil_types.proofs.reading.key.Goals as goal

pub returns-in_err-count : goal.returns-in_err-count
unfolding key_at
returns-in_err-count c = search rules
