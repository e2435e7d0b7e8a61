use Rattle.std.proofs.Common.{rules}
use Rattle.decision_log.proofs.cell.adopt.Goals as goal

pub returns-then-view-cell-clause-refused : goal.returns-then-view-cell-clause-refused
returns-then-view-cell-clause-refused c = search rules

pub returns-then-view-cell-2-clause-refused : goal.returns-then-view-cell-2-clause-refused
returns-then-view-cell-2-clause-refused c = search rules

pub returns-else-view-cell-2-clause-lawful : goal.returns-else-view-cell-2-clause-lawful
returns-else-view-cell-2-clause-lawful c = search rules

pub returns-else-view-cell-2-clause-step : goal.returns-else-view-cell-2-clause-step
returns-else-view-cell-2-clause-step c = search rules
