-- The next gate stands behind the record.
use Rattle.std.proofs.Common.{rules, refl, sym, arith}
use Rattle.journal_records.specs.Journal.{Holds}
use Rattle.journal_records.specs.Stopping.{after_stop}
use Rattle.node_journal.specs.Entries.{entry_of}
use Rattle.node_journal.specs.Steps.{handed}
use Rattle.node_journal.proofs.EntryLaws.{length-entry_of}
use Rattle.node_journal.proofs.StepLaws.{untouched}
use Rattle.node_journal.proofs.journaled.Journaled.write_down.Goals as goal

pub returns-then-too_long-clause-length : goal.returns-then-too_long-clause-length
returns-then-too_long-clause-length g c entries at =
    let h = handed c.args.now c.args.from c.args.frame.now in
    let gate = c.gate_behind-end.ensures.gate entries (entry_of h) at (sym (length-entry_of h)) in
    omega (arith, gate, c.if-too_long.true)

pub returns-in-Ok-clause-length : goal.returns-in-Ok-clause-length
returns-in-Ok-clause-length g c entries at long =
    let h = handed c.args.now c.args.from c.args.frame.now in
    let gate = c.gate_behind-end.ensures.gate entries (entry_of h) at (sym (length-entry_of h)) in
    omega (arith, gate, long, c.if-too_long.false)

pub returns-clause-length : goal.returns-clause-length
returns-clause-length g c entries at long =
    let h = handed c.args.now c.args.from c.args.frame.now in
    let gate = c.gate_behind-end.ensures.gate entries (entry_of h) at (sym (length-entry_of h)) in
    omega (arith, gate, long, c.if-too_long.false)

pub returns-clause-written : goal.returns-clause-written
returns-clause-written g c = search rules

pub returns-clause-count : goal.returns-clause-count
returns-clause-count g c = search rules

pub returns-clause-ready : goal.returns-clause-ready
returns-clause-ready g c = search rules

pub returns-clause-closes : goal.returns-clause-closes
returns-clause-closes g c = search rules

pub returns-clause-loses_none : goal.returns-clause-loses_none
returns-clause-loses_none g c = search rules

pub returns-clause-foreseen : goal.returns-clause-foreseen
returns-clause-foreseen g c = search rules

pub returns-then-too_long-clause-foreseen : goal.returns-then-too_long-clause-foreseen
returns-then-too_long-clause-foreseen g c entries stop at awaits near = untouched _ stop _ _ _ awaits refl

pub returns-in_err-entry-clause-foreseen : goal.returns-in_err-entry-clause-foreseen
returns-in_err-entry-clause-foreseen g c entries stop at awaits near =
    let h = handed c.args.now c.args.from c.args.frame.now in
    let stops = g.D.Disk.stops c.args.self.now.disk in
    let told = g.D.Disk.told c.args.self.now.disk in
    let waits = untouched (Holds (after_stop stop entries (entry_of h))) stop stops stops told awaits refl in
    search (rules, waits)

pub returns-in_err-room_in-clause-foreseen : goal.returns-in_err-room_in-clause-foreseen
returns-in_err-room_in-clause-foreseen g c entries stop at awaits near =
    let h = handed c.args.now c.args.from c.args.frame.now in
    let stops = g.D.Disk.stops c.args.self.now.disk in
    let told = g.D.Disk.told c.args.self.now.disk in
    let waits = untouched (Holds (after_stop stop entries (entry_of h))) stop stops stops told awaits refl in
    search (rules, waits)
