use Rattle.std.proofs.Common.{arith}
use Rattle.journal_records.proofs.RecordLaws.{last_gate-push, length-closed_record}
use Rattle.journal_records.proofs.gates.gate_behind.Goals as goal

pub returns-clause-gate : goal.returns-clause-gate
returns-clause-gate c entries entry at count =
    omega (arith, at, count, last_gate-push entries entry, length-closed_record entry)
