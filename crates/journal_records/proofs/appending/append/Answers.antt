use Rattle.std.proofs.Common.{Bool, ap, arith, length, rules}
use Rattle.journal_disk.specs.Foreseen.{OnStopped}
use Rattle.journal_records.specs.Journal.{Holds}
use Rattle.journal_records.specs.Stopping.{and_if}
use Rattle.journal_records.proofs.RecordLaws.{length-closed_record}
use Rattle.journal_records.proofs.AppendLaws.{both-end, both-lose}
use Rattle.journal_records.proofs.ForeseenLaws.{append-fails-first, append-fails-second, passes-later}
use Rattle.journal_records.proofs.appending.append.Goals as goal

pub returns-in_err-open_gate-clause-loses_none : goal.returns-in_err-open_gate-clause-loses_none
returns-in_err-open_gate-clause-loses_none g c entries at =
    both-lose entries c.args.entry.now _ _ _ (c.in_ok-prepare.ensures.prepared entries at)
    (λ then_past. c.open_gate.ensures.loses_none entries c.args.entry.now then_past at.gate)

pub returns-clause-appended : goal.returns-clause-appended
returns-clause-appended g c entries at =
    both-end entries c.args.entry.now c.args.end _ _ _ c.bytes.result.now c.bytes.ensures.spelled at
    (c.in_ok-prepare.ensures.prepared entries at)
    (λ then_past. c.in_ok-open_gate.ensures.opened entries c.args.entry.now then_past at.gate)

pub returns-clause-loses_none : goal.returns-clause-loses_none
returns-clause-loses_none g c entries at =
    both-lose entries c.args.entry.now _ _ _ (c.in_ok-prepare.ensures.prepared entries at)
    (λ then_past. c.open_gate.ensures.loses_none entries c.args.entry.now then_past at.gate)

pub returns-clause-place : goal.returns-clause-place
returns-clause-place g c = omega (arith, ap length c.bytes.ensures.spelled, length-closed_record c.args.entry.now)

pub returns-in_err-prepare-clause-foreseen : goal.returns-in_err-prepare-clause-foreseen
returns-in_err-prepare-clause-foreseen g c entries stop at awaits near =
    let fails = append-fails-first entries c.args.entry.now stop _ _ _ (c.in_err-prepare.ensures.foreseen entries stop at awaits) in
    search (rules, fails)

pub returns-in_err-open_gate-clause-foreseen : goal.returns-in_err-open_gate-clause-foreseen
returns-in_err-open_gate-clause-foreseen g c entries stop at awaits near =
    let entry = c.args.entry.now in
    let passes = c.in_ok-prepare.ensures.passed in
    let fails = append-fails-second entries entry stop
    (λ (b : Bool). OnStopped (Holds (and_if b entries entry)) stop.stop (g.D.Disk.stops c.args.disk.now)
    (g.D.Disk.stops c.open_gate.new.disk) (g.D.Disk.told c.open_gate.new.disk))
    _ _ _ _ near awaits passes (c.in_ok-prepare.ensures.prepared entries at)
    (λ then_past prepared waits one. passes-later _ stop.stop _ _ _ _ passes
    (c.in_err-open_gate.ensures.foreseen entries entry then_past _ at.gate prepared waits one)) in
    search (rules, fails)

pub returns-clause-foreseen : goal.returns-clause-foreseen
returns-clause-foreseen g c entries stop at awaits near =
    let entry = c.args.entry.now in
    append-fails-second entries entry stop (λ (b : Bool). ⊥) _ _ _ _ near awaits c.in_ok-prepare.ensures.passed
    (c.in_ok-prepare.ensures.prepared entries at)
    (λ then_past prepared waits one. c.in_ok-open_gate.ensures.foreseen entries entry then_past _ at.gate prepared waits one)
