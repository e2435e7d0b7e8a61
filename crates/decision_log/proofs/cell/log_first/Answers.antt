use Rattle.std.proofs.Common.{rules}
use Rattle.decision_log.proofs.cell.log_first.Goals as goal

pub returns-clause-value : goal.returns-clause-value
returns-clause-value c = search rules

pub returns-clause-step : goal.returns-clause-step
returns-clause-step c = search rules
