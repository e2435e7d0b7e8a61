use Rattle.std.proofs.Common.{rules}
use Rattle.frame_views.specs.Grammar.{next_number_at}
use Rattle.frame_views.proofs.fields.next_number.Goals as goal

pub returns-then-floor-from : goal.returns-then-floor-from
unfolding next_number_at
returns-then-floor-from c = search rules
