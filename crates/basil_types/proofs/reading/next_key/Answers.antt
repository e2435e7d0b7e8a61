use Rattle.std.proofs.Common.{rules}
use Rattle.basil_types.specs.Reading.{next_key_at}
use Rattle.basil_types.proofs.reading.next_key.Goals as goal

pub returns-then-is_lt : goal.returns-then-is_lt
unfolding next_key_at
returns-then-is_lt c = search rules

pub returns-else-is_lt : goal.returns-else-is_lt
unfolding next_key_at
returns-else-is_lt c = search rules
