use Rattle.std.proofs.Common.{rules}
use Rattle.client_steps.proofs.stages.is_over.Goals as goal

pub returns-then-decided : goal.returns-then-decided
returns-then-decided c = search rules

pub returns-else-decided : goal.returns-else-decided
returns-else-decided c = search rules
