use Rattle.std.proofs.Common.{rules}
use Rattle.journal_records.proofs.found.next.Goals as goal

pub returns-clause-told : goal.returns-clause-told
returns-clause-told g c = search rules

pub returns-then-gate-ne-OPEN-clause-as_before : goal.returns-then-gate-ne-OPEN-clause-as_before
returns-then-gate-ne-OPEN-clause-as_before g c = search rules

pub returns-then-gate-ne-OPEN-clause-stops : goal.returns-then-gate-ne-OPEN-clause-stops
returns-then-gate-ne-OPEN-clause-stops g c = search rules
