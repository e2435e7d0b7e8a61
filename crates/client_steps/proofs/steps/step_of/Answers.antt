use Rattle.std.proofs.Common.{rules}
use Rattle.client_steps.proofs.steps.step_of.Goals as goal

pub returns-then-fits-clause-exact : goal.returns-then-fits-clause-exact
returns-then-fits-clause-exact c = search rules

pub returns-else-fits-clause-exact : goal.returns-else-fits-clause-exact
returns-else-fits-clause-exact c = search rules
