use Rattle.std.proofs.Common.{rules, length}
use Rattle.journal_records.proofs.AppendLaws.{prepare-kept, prepare-loses, prepare-torn}
use Rattle.journal_records.proofs.ForeseenLaws.{passes-fails, prepare-fails}
use Rattle.journal_records.proofs.appending.prepare.Goals as goal

pub returns-in_err-write_at-clause-loses_none : goal.returns-in_err-write_at-clause-loses_none
returns-in_err-write_at-clause-loses_none g c entries at =
    prepare-torn entries c.args.entry.now c.args.end (length c.bytes.result.now) _ _ at c.in_err-write_at.ensures.torn

pub returns-clause-prepared : goal.returns-clause-prepared
returns-clause-prepared g c entries at =
    let kept = prepare-kept entries c.args.entry.now c.args.end _ _ c.bytes.result.now c.bytes.ensures.fits c.bytes.ensures.spelled at
    c.in_ok-write_at.ensures.written in
    search (rules, kept)

pub returns-clause-loses_none : goal.returns-clause-loses_none
returns-clause-loses_none g c entries at =
    let loses = prepare-loses entries c.args.entry.now c.args.end _ _ c.bytes.result.now c.bytes.ensures.fits c.bytes.ensures.spelled at
    c.in_ok-write_at.ensures.written in
    search (rules, loses)

pub returns-in_err-write_at-clause-foreseen : goal.returns-in_err-write_at-clause-foreseen
returns-in_err-write_at-clause-foreseen g c entries stop at awaits =
    let fails = prepare-fails entries c.args.end stop (length c.bytes.result.now) _ _ _ _ at awaits c.in_err-write_at.ensures.stopped in
    search (rules, fails)

pub returns-clause-foreseen : goal.returns-clause-foreseen
returns-clause-foreseen g c entries stop at awaits =
    passes-fails _ _ stop _ _ _ _ awaits c.in_ok-write_at.ensures.passed c.sync.ensures.stops

pub returns-clause-cause : goal.returns-clause-cause
returns-clause-cause g c = search rules
