use Rattle.std.proofs.Common.{rules}
use Rattle.journal_records.proofs.AppendLaws.{open-kept, open-loses, open-torn}
use Rattle.journal_records.proofs.ForeseenLaws.{gate-fails, passes-not_last}
use Rattle.journal_records.proofs.gates.open_gate.Goals as goal

pub returns-in_err-write_at-clause-loses_none : goal.returns-in_err-write_at-clause-loses_none
returns-in_err-write_at-clause-loses_none g c = search (rules, open-torn)

pub returns-clause-opened : goal.returns-clause-opened
returns-clause-opened g c entries entry then_past ends prepared =
    let kept = open-kept entries entry c.args.end ends then_past _ _ prepared c.in_ok-write_at.ensures.written in
    search (rules, kept)

pub returns-clause-loses_none : goal.returns-clause-loses_none
returns-clause-loses_none g c entries entry then_past ends prepared =
    let loses = open-loses entries entry c.args.end ends then_past _ _ prepared c.in_ok-write_at.ensures.written in
    search (rules, loses)

pub returns-in_err-write_at-clause-foreseen : goal.returns-in_err-write_at-clause-foreseen
returns-in_err-write_at-clause-foreseen g c entries entry then_past stop ends prepared awaits one =
    let fails = gate-fails entries entry c.args.end ends then_past stop _ _ _ _ prepared awaits c.in_err-write_at.ensures.stopped in
    search (rules, fails)

pub returns-clause-foreseen : goal.returns-clause-foreseen
returns-clause-foreseen g c entries entry then_past stop ends prepared awaits one =
    absurd (passes-not_last stop _ _ awaits c.in_ok-write_at.ensures.passed one)
